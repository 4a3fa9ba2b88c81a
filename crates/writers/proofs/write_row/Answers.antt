-- Each turn writes its part. Written by tools/reports.py. Assumes nothing.
use Rattle.std.proofs.Common.{rules}
use native.Mathlib.Omega.{arith}
use mathlib.Core.Path.{sym, ◌∙◌}
use contract.BorrowLft.{⊑_meet, ⊑_static}
use Rattle.faults.specs.Index.{row}
use Rattle.writers.proofs.Laws.{row_unasked}
use Rattle.writers.proofs.write_row.Goals as goal

pub returns-then-asks_nothing : goal.returns-then-asks_nothing
returns-then-asks_nothing c = row_unasked _ _ _ _ _ _ (sym c.asks_nothing.ensures ∙ c.if-asks_nothing.true)

pub write_turns-requires : goal.write_turns-requires
write_turns-requires c = λ κs within. (search (⊑_meet, ⊑_static, within.0, within.1.0, within.1.1.0) depth 14 fits 20000, (λ i s l. search (rules, arith), λ i s t s' e. search rules))

pub returns : goal.returns
unfolding row
returns c = search rules
