use Prim.Native.Nat.{◌+◌, ◌*◌}
use mathlib.Core.Path.{refl}
use Rattle.std.proofs.Common.{rules}
use Rattle.std.proofs.lemmas.Iterator.{YieldsList-from_range}
use Rattle.laws.proofs.Chains.{all_over}
use Rattle.table.specs.Table.{offset_of}
use Rattle.quick.proofs.each_row.Goals as goal

pub returns : goal.returns
returns g c = let a = c.args in λ p tells. rw (← c.count.ensures) (all_over (λ i. p (offset_of a.words.now a.s + a.s.size * i)) (λ i. i) _ _ _ c.all.ensures.ran (YieldsList-from_range _ _ _ refl refl) (λ x b f k. search rules))
