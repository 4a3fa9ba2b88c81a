-- Each arm is a line of the table. Written by tools/reports.py. Assumes nothing.
use native.Mathlib.Omega.{arith}
use mathlib.Core.Path.{refl}
use Rattle.faults.specs.Places.{when}
use Rattle.faults.proofs.Laws.{other}
use Rattle.policies.specs.Tables.{open_ssl_places}
use Rattle.policies.proofs.openssl_places.Goals as goal

pub returns-in-2 : goal.returns-in-2
unfolding open_ssl_places when
returns-in-2 c = rw c.in-2.is

pub returns-in-3 : goal.returns-in-3
unfolding open_ssl_places when
returns-in-3 c = rw c.in-3.is

pub returns-in-4 : goal.returns-in-4
unfolding open_ssl_places when
returns-in-4 c = rw c.in-4.is

pub returns-in-5 : goal.returns-in-5
unfolding open_ssl_places when
returns-in-5 c = rw c.in-5.is

pub returns-in-6 : goal.returns-in-6
unfolding open_ssl_places when
returns-in-6 c = rw c.in-6.is

pub returns-in-7 : goal.returns-in-7
unfolding open_ssl_places when
returns-in-7 c = rw c.in-7.is

pub returns-in-8 : goal.returns-in-8
unfolding open_ssl_places when
returns-in-8 c = rw c.in-8.is

pub returns-in-9 : goal.returns-in-9
unfolding open_ssl_places when
returns-in-9 c = rw c.in-9.is

pub returns-in-10 : goal.returns-in-10
unfolding open_ssl_places when
returns-in-10 c = rw c.in-10.is

pub returns-in-11 : goal.returns-in-11
unfolding open_ssl_places when
returns-in-11 c = rw c.in-11.is

pub returns-in-12 : goal.returns-in-12
unfolding open_ssl_places when
returns-in-12 c = rw c.in-12.is

pub returns-in-13 : goal.returns-in-13
unfolding open_ssl_places when
returns-in-13 c = rw c.in-13.is

pub returns-in-14 : goal.returns-in-14
unfolding open_ssl_places when
returns-in-14 c = rw c.in-14.is

pub returns-in-15 : goal.returns-in-15
unfolding open_ssl_places when
returns-in-15 c = rw c.in-15.is

pub returns-in_default : goal.returns-in_default
unfolding open_ssl_places
returns-in_default c =
    other _ _ (λ e. omega arith) (
    other _ _ (λ e. omega arith) (
    other _ _ (λ e. omega arith) (
    other _ _ (λ e. omega arith) (
    other _ _ (λ e. omega arith) (
    other _ _ (λ e. omega arith) (
    other _ _ (λ e. omega arith) (
    other _ _ (λ e. omega arith) (
    other _ _ (λ e. omega arith) (
    other _ _ (λ e. omega arith) (
    other _ _ (λ e. omega arith) (
    other _ _ (λ e. omega arith) (
    other _ _ (λ e. omega arith) (
    other _ _ (λ e. omega arith) (
    refl))))))))))))))
