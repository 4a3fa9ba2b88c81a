-- Each arm is a line of the table. Written by tools/reports.py. Assumes nothing.
use native.Mathlib.Omega.{arith}
use mathlib.Core.Path.{refl}
use Rattle.faults.specs.Places.{when}
use Rattle.faults.proofs.Laws.{other}
use Rattle.policies.specs.Tables.{chrome_places}
use Rattle.policies.proofs.chrome_places.Goals as goal

pub returns-in-2 : goal.returns-in-2
unfolding chrome_places when
returns-in-2 c = rw c.in-2.is

pub returns-in-3 : goal.returns-in-3
unfolding chrome_places when
returns-in-3 c = rw c.in-3.is

pub returns-in-4 : goal.returns-in-4
unfolding chrome_places when
returns-in-4 c = rw c.in-4.is

pub returns-in-5 : goal.returns-in-5
unfolding chrome_places when
returns-in-5 c = rw c.in-5.is

pub returns-in-6 : goal.returns-in-6
unfolding chrome_places when
returns-in-6 c = rw c.in-6.is

pub returns-in-8 : goal.returns-in-8
unfolding chrome_places when
returns-in-8 c = rw c.in-8.is

pub returns-in-9 : goal.returns-in-9
unfolding chrome_places when
returns-in-9 c = rw c.in-9.is

pub returns-in-10 : goal.returns-in-10
unfolding chrome_places when
returns-in-10 c = rw c.in-10.is

pub returns-in-11 : goal.returns-in-11
unfolding chrome_places when
returns-in-11 c = rw c.in-11.is

pub returns-in-12 : goal.returns-in-12
unfolding chrome_places when
returns-in-12 c = rw c.in-12.is

pub returns-in-13 : goal.returns-in-13
unfolding chrome_places when
returns-in-13 c = rw c.in-13.is

pub returns-in-14 : goal.returns-in-14
unfolding chrome_places when
returns-in-14 c = rw c.in-14.is

pub returns-in-15 : goal.returns-in-15
unfolding chrome_places when
returns-in-15 c = rw c.in-15.is

pub returns-in-16 : goal.returns-in-16
unfolding chrome_places when
returns-in-16 c = rw c.in-16.is

pub returns-in-17 : goal.returns-in-17
unfolding chrome_places when
returns-in-17 c = rw c.in-17.is

pub returns-in-18 : goal.returns-in-18
unfolding chrome_places when
returns-in-18 c = rw c.in-18.is

pub returns-in-19 : goal.returns-in-19
unfolding chrome_places when
returns-in-19 c = rw c.in-19.is

pub returns-in-20 : goal.returns-in-20
unfolding chrome_places when
returns-in-20 c = rw c.in-20.is

pub returns-in_default : goal.returns-in_default
unfolding chrome_places
returns-in_default c =
    other _ _ (λ e. omega arith) (
    other _ _ (λ e. omega arith) (
    other _ _ (λ e. omega arith) (
    other _ _ (λ e. omega arith) (
    other _ _ (λ e. omega arith) (
    other _ _ (λ e. omega arith) (
    other _ _ (λ e. omega arith) (
    other _ _ (λ e. omega arith) (
    other _ _ (λ e. omega arith) (
    other _ _ (λ e. omega arith) (
    other _ _ (λ e. omega arith) (
    other _ _ (λ e. omega arith) (
    other _ _ (λ e. omega arith) (
    other _ _ (λ e. omega arith) (
    other _ _ (λ e. omega arith) (
    other _ _ (λ e. omega arith) (
    other _ _ (λ e. omega arith) (
    other _ _ (λ e. omega arith) (
    refl))))))))))))))))))
