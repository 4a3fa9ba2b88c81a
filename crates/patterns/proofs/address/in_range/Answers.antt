use mathlib.Core.Path.{refl, sym, ◌∙◌}
use Rattle.std.proofs.Common.{rules}
use Rattle.std.proofs.lemmas.Iterator.{YieldsList-from_range}
use Rattle.laws.proofs.Chains.{all_over}
use Rattle.patterns.specs.Address.{agrees_at}
use Rattle.patterns.proofs.Ranges.{each_byte}
use Rattle.patterns.proofs.address.in_range.Goals as goal

pub returns : goal.returns
unfolding agrees_at
returns c =
    all_over (agrees_at _ c.args.range.now c.args.address.now) (λ i. i) _ _ _ c.all.ensures.ran (YieldsList-from_range _ _ _ refl refl) (λ i b q k. search rules)
    ∙ sym (each_byte _ _ _ c.requires.0 c.requires.1)
