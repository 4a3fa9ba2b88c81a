-- Assumes nothing.
use Rattle.model.specs.Decode.{cert_word}
use Rattle.certs.proofs.cert_string.Goals as goal

pub returns : goal.returns
unfolding cert_word
returns c = c.string_named.ensures
