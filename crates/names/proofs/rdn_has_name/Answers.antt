-- Written by tools/chains.py. Assumes nothing.
use Rattle.std.proofs.Common.{rules, refl}
use Rattle.std.proofs.lemmas.Iterator.{YieldsList-from_range}
use Rattle.laws.proofs.Chains.{any_over}
use Rattle.names.specs.Names.{rdn_has_name}
use Rattle.names.proofs.rdn_has_name.Goals as goal

pub returns : goal.returns
unfolding rdn_has_name
returns c = any_over _ _ _ _ _ c.any.ensures.ran (YieldsList-from_range _ _ _ refl refl) (λ n b f k. search rules)
