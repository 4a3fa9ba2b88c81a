use Rattle.fields.specs.Signatures.{outer_inner_sig_match}
use Rattle.fields.proofs.signatures.outer_inner_sig_match.Goals as goal

pub returns : goal.returns
unfolding outer_inner_sig_match
returns c = rw (← c.cert_string.ensures, ← c.cert_string-2.ensures) c.same.ensures
