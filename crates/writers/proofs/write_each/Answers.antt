-- Each turn writes its part. Written by tools/reports.py. Assumes nothing.
use Rattle.std.proofs.Common.{rules}
use native.Mathlib.Omega.{arith}
use mathlib.Core.Path.{ap}
use mathlib.Core.Bool.{not}
use contract.BorrowLft.{⊑_meet, ⊑_static}
use Rattle.writers.proofs.Laws.{each_unbroken}
use Rattle.writers.proofs.write_each.Goals as goal

pub returns-then-not-any_breaks : goal.returns-then-not-any_breaks
returns-then-not-any_breaks c = each_unbroken _ _ _ _ _ c.any_breaks.ensures (ap not c.if-not-any_breaks.true)

pub write_turns-requires : goal.write_turns-requires
write_turns-requires c = λ κs within. (search (⊑_meet, ⊑_static, within.0, within.1.0, within.1.1.0) depth 14 fits 20000, (λ i s l. search (rules, arith), λ i s t s' e. search rules))
