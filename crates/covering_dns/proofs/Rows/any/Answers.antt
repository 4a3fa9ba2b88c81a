-- Written by tools/chains.py. Assumes nothing.
use Rattle.std.proofs.Common.{rules, refl}
use Rattle.std.proofs.lemmas.Iterator.{YieldsList-from_range}
use Rattle.laws.proofs.Chains.{any_over}
use Rattle.covering_dns.proofs.Rows.any.Goals as goal

pub returns : goal.returns
returns c = any_over _ _ _ _ _ c.any.ensures.ran (YieldsList-from_range _ _ _ refl refl) (λ n b f k. search rules)
