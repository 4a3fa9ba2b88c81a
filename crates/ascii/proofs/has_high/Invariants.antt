use Prim.Native.Nat.{◌+◌, ◌-◌}
use mathlib.Core.Path.{◌≡◌}
use lib.ListN.{length}
use Rattle.ascii.specs.Bytes.{is_high}
use Rattle.ascii.proofs.Blocks.{NoneTo}
use Rattle.ascii.proofs.has_high.Given as goal

-- none of the bytes that were passed is high
abbrev pub invariant-loop-i : goal.invariant-loop-i
invariant-loop-i l = (l.last + 8 ≡ length l.s) × NoneTo is_high l.s l.i

abbrev pub decreases-loop-i : goal.decreases-loop-i
decreases-loop-i l = l.last - l.i
