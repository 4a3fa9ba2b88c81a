use Prim.Native.Nat.{ℕ}
use mathlib.Core.Path.{refl}
use Rattle.std.proofs.Common.{rules}
use Rattle.row_tests.specs.declared.Test.TheVariants.{StringOut, NumberOut, RangeOut, NumberHigh}
use Rattle.row_tests.specs.Wrong.{wrong}
use Rattle.search.proofs.Steps.{row_by_test}
use Rattle.search.proofs.first_row.Goals as goal

pub returns-in-StringOut : goal.returns-in-StringOut
returns-in-StringOut c = row_by_test _ _ _ _ _ c.in-StringOut.is (c.first_that.ensures (λ (q : ℕ). wrong StringOut c.args.lent.words.now c.args.lent.bytes.now q c.args.l.word) (λ q b k. search rules))

pub returns-in-NumberOut : goal.returns-in-NumberOut
returns-in-NumberOut c = row_by_test _ _ _ _ _ c.in-NumberOut.is (c.first_that-in-NumberOut.ensures (λ (q : ℕ). wrong NumberOut c.args.lent.words.now c.args.lent.bytes.now q c.args.l.word) (λ q b k. search rules))

pub returns-in-RangeOut : goal.returns-in-RangeOut
returns-in-RangeOut c = row_by_test _ _ _ _ _ c.in-RangeOut.is (c.first_that-in-RangeOut.ensures (λ (q : ℕ). wrong (RangeOut c.in-RangeOut.s) c.args.lent.words.now c.args.lent.bytes.now q c.args.l.word) (λ q b k. search rules))

pub returns-in-NumberHigh : goal.returns-in-NumberHigh
returns-in-NumberHigh c = row_by_test _ _ _ _ _ c.in-NumberHigh.is (c.first_that-in-NumberHigh.ensures (λ (q : ℕ). wrong NumberHigh c.args.lent.words.now c.args.lent.bytes.now q c.args.l.word) (λ q b k. search rules))

pub returns-in_default : goal.returns-in_default
returns-in_default c = row_by_test _ _ _ _ _ refl (c.first_that-in_default.ensures (λ (q : ℕ). wrong c.args.l.test c.args.lent.words.now c.args.lent.bytes.now q c.args.l.word) (λ q b k. search rules))
