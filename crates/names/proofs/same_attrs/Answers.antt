-- Written by tools/chains.py. Assumes nothing.
use Rattle.std.proofs.Common.{rules, refl}
use Rattle.std.proofs.lemmas.Iterator.{YieldsList-from_range, YieldsList-from_zip}
use Rattle.laws.proofs.Chains.{each_over}
use Rattle.laws.proofs.Pairs.{each_unequal}
use Rattle.names.specs.Names.{same_rdn}
use Rattle.names.proofs.same_attrs.Goals as goal

pub returns-then-size : goal.returns-then-size
unfolding same_rdn
returns-then-size c = each_unequal _ _ _ _ _ _ _ c.size.ensures c.size-2.ensures c.if-size.true

pub returns : goal.returns
unfolding same_rdn
returns c = each_over _ _ _ _ _ _ _ _ c.size.ensures c.size-2.ensures c.if-size.false c.all.ensures.ran (YieldsList-from_zip (YieldsList-from_range _ _ _ c.zip.ensures.first refl) (YieldsList-from_range _ _ _ c.zip.ensures.second refl)) (λ n b f k. search rules)
