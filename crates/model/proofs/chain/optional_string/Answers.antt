-- Assumes nothing.
use Prim.Native.Nat.{◌≤◌}
use native.Mathlib.Omega.{arith}
use mathlib.Core.Path.{sym, ap, ◌∙◌}
use mathlib.Core.Option.{some}
use Rattle.table.specs.Table.{string_of}
use Rattle.model.specs.Decode.{optional_string}
use Rattle.model.proofs.Optional.{absent, present}
use Rattle.model.proofs.chain.optional_string.Goals as goal

pub returns-in_err-n : goal.returns-in_err-n
unfolding optional_string
returns-in_err-n c = rw c.from_residual.ensures (absent _ _ (omega (arith, c.in_err-n.ensures)))

pub returns : goal.returns
unfolding optional_string
returns c =
    let given = c.in_ok-n.ensures in
    present _ _ (λ z. omega (arith, given.0, z)) ∙ ap some (sym (c.string.ensures ∙ ap (string_of c.args.chain.words.now c.args.chain.bytes.now) given.1))
