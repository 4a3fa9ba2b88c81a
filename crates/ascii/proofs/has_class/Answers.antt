use mathlib.Core.Path.{◌∙◌}
use Rattle.std.proofs.Common.{rules}
use Rattle.std.proofs.lemmas.Iterator.{YieldsList-from_slice}
use Rattle.std.proofs.lemmas.Iterator.Search.{any_from_yields_List}
use Rattle.ascii.proofs.Chains.{any_of_list}
use Rattle.ascii.proofs.has_class.Goals as goal

pub returns : goal.returns
returns c = any_from_yields_List _ _ _ _ c.any.ensures.ran (YieldsList-from_slice _ c.iter.ensures.rest) (λ x b q k. search (rules, c.whole-table.ensures)) ∙ any_of_list _ _
