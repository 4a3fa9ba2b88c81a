use Rattle.std.proofs.Common.{rules, refl}
use Rattle.std.proofs.lemmas.Iterator.{YieldsList-from_range}
use Rattle.laws.proofs.Chains.{any_over}
use Rattle.roots.specs.Symantec.{is_symantec_root, is_exception}
use Rattle.roots.proofs.Laws.{symantec_root, other_root}
use Rattle.roots.proofs.symantec.symantec_holds.Goals as goal

pub returns-then-is_listed : goal.returns-then-is_listed
unfolding is_symantec_root is_exception
returns-then-is_listed c = symantec_root _ _ c.root_row-root.ensures c.is_listed.ensures c.if-is_listed.true (any_over _ _ _ _ _ c.any.ensures.ran (YieldsList-from_range _ _ _ refl refl) (λ n b f k. search rules))

pub returns : goal.returns
unfolding is_symantec_root
returns c = other_root _ _ c.root_row-root.ensures c.is_listed.ensures c.if-is_listed.false
