use mathlib.Core.Path.{◌≡◌}
use mathlib.Core.Bool.{false}
use lib.ListN.{length}
use Rattle.laws.specs.Lists.{eq_list}
use Rattle.normal.specs.Normal.{same_normal}
use Rattle.normal.specs.Walk.{form}
use Rattle.normal.proofs.same_normal.Given as goal

abbrev pub invariant-loop-x : goal.invariant-loop-x
invariant-loop-x l = same_normal l.a l.b ≡ eq_list (form false l.left) (form false l.right)

abbrev pub decreases-loop-x : goal.decreases-loop-x
decreases-loop-x l = length l.left
