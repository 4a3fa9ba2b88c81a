-- Written by tools/chains.py. Assumes nothing.
use Rattle.std.proofs.Common.{rules, refl}
use Rattle.std.proofs.lemmas.Iterator.{YieldsList-from_range}
use Rattle.laws.proofs.Chains.{all_over}
use Rattle.sans.specs.Sans.{each_common}
use Rattle.constrained_o.proofs.commons_pass.Goals as goal

pub returns : goal.returns
unfolding each_common
returns c = all_over _ _ _ _ _ c.all.ensures.ran (YieldsList-from_range _ _ _ refl refl) (λ n b f k. search rules)
