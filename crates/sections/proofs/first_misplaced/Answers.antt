use mathlib.Core.Path.{◌∙◌}
use Rattle.std.proofs.Common.{rules}
use Rattle.std.proofs.lemmas.Iterator.{YieldsList-from_slice}
use Rattle.std.proofs.lemmas.Iterator.Consumers.{fold_from_yields_List}
use Rattle.std.specs.declared.option.Option.TheVariants.{None}
use Rattle.sections.specs.Found.{earlier_of}
use Rattle.sections.specs.Placed.{found_section}
use Rattle.sections.proofs.Each.{each_fold}
use Rattle.sections.proofs.first_misplaced.Goals as goal

pub returns : goal.returns
returns c = let found = found_section c.args.header c.args.words.now in fold_from_yields_List _ (λ f s. earlier_of f (found s)) None _ c.fold.ensures.ran (YieldsList-from_slice c.args.sections.now cc) (λ f s g q k. search rules) ∙ each_fold found None c.args.sections.now
