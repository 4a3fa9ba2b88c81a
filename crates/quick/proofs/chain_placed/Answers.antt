use mathlib.Core.Bool.{not}
use Rattle.std.proofs.Common.{rules}
use Rattle.std.proofs.lemmas.Iterator.{YieldsList-from_slice}
use Rattle.std.proofs.lemmas.Iterator.Search.{all_from_yields_List}
use Rattle.laws.specs.Lists.{all}
use Rattle.model.specs.Sections.{chain_header}
use Rattle.sections.specs.Placed.{misplaced, chain_sections}
use Rattle.quick.specs.Fine.{all_placed}
use Rattle.quick.proofs.chain_placed.Goals as goal

pub returns : goal.returns
unfolding all_placed all
returns c = all_from_yields_List (λ s. not (misplaced chain_header c.args.words.now s)) _ _ _ c.all.ensures.ran (YieldsList-from_slice chain_sections cc) (λ s b q k. search rules)
