-- Assumes nothing.
use Rattle.model.specs.Decode.{cert_word, cert_range}
use Rattle.certs.proofs.cert_range.Goals as goal

pub returns : goal.returns
unfolding cert_word cert_range
returns c = c.rows_named.ensures
