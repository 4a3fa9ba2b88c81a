use mathlib.Core.Path.{refl, ◌∙◌}
use Rattle.std.proofs.Common.{rules}
use Rattle.std.proofs.lemmas.Iterator.{YieldsList-from_range}
use Rattle.search.specs.Rows.{row_at}
use Rattle.search.proofs.Chains.{position_over}
use Rattle.search.proofs.first_that.Goals as goal

pub returns : goal.returns
returns g c = λ p tells. c.unwrap_or.ensures ∙ position_over (λ k. p (row_at c.args.r k)) _ _ c.position.ensures.ran (YieldsList-from_range _ _ _ refl refl) (λ x b f k. search rules)
