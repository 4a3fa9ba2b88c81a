use Prim.Native.Nat.{ℕ}
use mathlib.Core.Path.{sym, ◌∙◌}
use lib.Dec.{eqb}
use borrow.Author.Tests.{ne_eqb}
use Rattle.std.proofs.Common.{rules}
use Rattle.std.proofs.lemmas.Iterator.{YieldsList-from_slice, YieldsList-from_zip}
use Rattle.std.proofs.lemmas.Iterator.Search.{all_from_yields_List}
use Rattle.laws.proofs.Equal.{each_length}
use Rattle.ascii.specs.Bytes.{lower_byte}
use Rattle.text.specs.Texts.{taken_byte}
use Rattle.text.proofs.Chains.{each_of_zip}
use Rattle.text.proofs.Laws.{taken_each}
use Rattle.text.proofs.same_lowered.Goals as goal

pub returns-else-p-n : goal.returns-else-p-n
returns-else-p-n c = ne_eqb _ _ c.if-p-n.false ∙ sym (taken_each c.args.letters _ _ ∙ each_length _ _ _ c.if-p-n.false)

pub returns-then-p-n : goal.returns-then-p-n
returns-then-p-n c = all_from_yields_List (λ (x : ℕ × ℕ). eqb (taken_byte c.args.letters x.0) (lower_byte x.1)) c.all.new.self _ _ c.all.ensures.ran (YieldsList-from_zip (YieldsList-from_slice c.args.p.now cc) (YieldsList-from_slice c.args.n.now cc)) (λ x b q k. search rules) ∙ each_of_zip _ _ _ c.if-p-n.true ∙ sym (taken_each c.args.letters _ _)
