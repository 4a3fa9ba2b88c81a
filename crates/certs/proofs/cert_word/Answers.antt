use Rattle.model.specs.Decode.{cert_word}
use Rattle.certs.proofs.cert_word.Goals as goal

pub returns : goal.returns
unfolding cert_word
returns c = c.field.ensures
