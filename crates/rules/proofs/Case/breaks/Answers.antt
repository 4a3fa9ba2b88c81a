-- Each kind of spot has its table. Written by tools/reports.py. Assumes nothing.
use Rattle.rules.specs.Rules.{broken}
use Rattle.rules.proofs.Case.breaks.Goals as goal

pub returns-in-Nothing : goal.returns-in-Nothing
unfolding broken
returns-in-Nothing c = rw c.in-Nothing.is

pub returns-in-Certificate : goal.returns-in-Certificate
unfolding broken
returns-in-Certificate c = rw c.in-Certificate.is c.breaks_at.ensures

pub returns-in-Pair : goal.returns-in-Pair
unfolding broken
returns-in-Pair c = rw c.in-Pair.is c.breaks_between.ensures
