-- Each arm is a line of the table. Written by tools/reports.py. Assumes nothing.
use native.Mathlib.Omega.{arith}
use mathlib.Core.Path.{refl}
use Rattle.faults.specs.Places.{when}
use Rattle.faults.proofs.Laws.{other}
use Rattle.rules.specs.Rules.{holds_between}
use Rattle.rules.proofs.Case.holds_between.Goals as goal

pub returns-in-13 : goal.returns-in-13
unfolding holds_between when
returns-in-13 c = rw c.in-13.is c.likely_issued.ensures

pub returns-in-14 : goal.returns-in-14
unfolding holds_between when
returns-in-14 c = rw c.in-14.is c.constraints_hold.ensures

pub returns-in-17 : goal.returns-in-17
unfolding holds_between when
returns-in-17 c = rw c.in-17.is c.duration_holds.ensures

pub returns-in_default : goal.returns-in_default
unfolding holds_between
returns-in_default c =
    other _ _ (λ e. omega arith) (
    other _ _ (λ e. omega arith) (
    other _ _ (λ e. omega arith) (
    refl)))
