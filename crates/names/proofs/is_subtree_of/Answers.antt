-- Written by tools/chains.py. Assumes nothing.
use Rattle.std.proofs.Common.{rules, refl}
use Rattle.std.proofs.lemmas.Iterator.{YieldsList-from_range, YieldsList-from_zip}
use Rattle.laws.proofs.Chains.{front_over}
use Rattle.laws.proofs.Pairs.{front_longer}
use Rattle.names.specs.Names.{is_subtree_of}
use Rattle.names.proofs.is_subtree_of.Goals as goal

pub returns-then-size : goal.returns-then-size
unfolding is_subtree_of
returns-then-size c = front_longer _ _ _ _ _ _ _ c.size-2.ensures c.size.ensures c.if-size.true

pub returns : goal.returns
unfolding is_subtree_of
returns c = front_over _ _ _ _ _ _ _ _ c.size-2.ensures c.size.ensures c.if-size.false c.all.ensures.ran (YieldsList-from_zip (YieldsList-from_range _ _ _ c.zip.ensures.first refl) (YieldsList-from_range _ _ _ c.zip.ensures.second refl)) (λ n b f k. search rules)
