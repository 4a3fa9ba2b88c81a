use Rattle.roots.specs.Duration.{leaf_duration_valid}
use Rattle.roots.proofs.duration.leaf_duration_valid.Goals as goal

pub returns : goal.returns
unfolding leaf_duration_valid
returns c = rw (← c.cert_word.ensures, ← c.cert_word-2.ensures) c.span_valid.ensures
