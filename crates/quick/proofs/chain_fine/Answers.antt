use mathlib.Core.Path.{sym, ◌∙◌}
use mathlib.Core.Bool.{true≢false}
use Rattle.quick.proofs.Chain.{strings_placed, chain_unplaced, chain_out, chain_in}
use Rattle.quick.proofs.chain_fine.Goals.{then-chain_placed, else-chain_placed}
use Rattle.quick.proofs.chain_fine.Goals as goal

pub strings_fit-requires : goal.strings_fit-requires
strings_fit-requires c = strings_placed _ (sym c.chain_placed.ensures ∙ c.if-chain_placed.true)

pub returns-then-strings_fit : goal.returns-then-strings_fit
returns-then-strings_fit c = elim c.if-chain_placed.branch [
  | then-chain_placed w ↦ chain_in _ _ c.chain_placed.ensures w.if-chain_placed.true c.chain_rows_fine.ensures
  | else-chain_placed w ↦ absurd (true≢false (sym c.if-strings_fit.true ∙ w.value-is ∙ w.if-chain_placed.false))
]

pub returns-else-strings_fit : goal.returns-else-strings_fit
returns-else-strings_fit c = elim c.if-chain_placed.branch [
  | then-chain_placed w ↦ c.if-strings_fit.false ∙ chain_out _ _ c.chain_placed.ensures w.strings_fit.ensures w.if-chain_placed.true (sym w.value-is ∙ c.if-strings_fit.false)
  | else-chain_placed w ↦ c.if-strings_fit.false ∙ chain_unplaced _ _ c.chain_placed.ensures w.if-chain_placed.false
]
