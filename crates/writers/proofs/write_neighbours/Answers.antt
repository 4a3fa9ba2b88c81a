-- Each turn writes its part. Written by tools/reports.py. Assumes nothing.
use Rattle.std.proofs.Common.{rules}
use native.Mathlib.Omega.{arith}
use contract.BorrowLft.{⊑_meet, ⊑_static}
use Rattle.writers.proofs.write_neighbours.Goals as goal

pub write_turns-requires : goal.write_turns-requires
write_turns-requires c = λ κs within. (search (⊑_meet, ⊑_static, within.0, within.1.0, within.1.1.0) depth 14 fits 20000, (λ i s l. search (rules, arith), λ i s t s' e. search rules))
