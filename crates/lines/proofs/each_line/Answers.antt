use mathlib.Core.Path.{◌∙◌}
use Rattle.std.proofs.Common.{rules}
use Rattle.std.proofs.lemmas.Iterator.{YieldsList-from_slice}
use Rattle.std.proofs.lemmas.Iterator.Consumers.{fold_from_yields_List}
use Rattle.sections.specs.Found.{earlier_of}
use Rattle.sections.proofs.Each.{each_fold}
use Rattle.search.specs.Found.{found_in}
use Rattle.lines.proofs.each_line.Goals as goal

pub returns : goal.returns
returns c = let found = found_in c.args.lent.words.now c.args.lent.bytes.now in fold_from_yields_List _ (λ f l. earlier_of f (found l)) c.args.f _ c.fold.ensures.ran (YieldsList-from_slice c.args.lines.now cc) (λ f l g q k. search rules) ∙ each_fold found c.args.f c.args.lines.now
