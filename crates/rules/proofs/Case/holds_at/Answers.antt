-- Each arm is a line of the table. Written by tools/reports.py. Assumes nothing.
use native.Mathlib.Omega.{arith}
use mathlib.Core.Path.{refl}
use Rattle.faults.specs.Places.{when}
use Rattle.faults.proofs.Laws.{other}
use Rattle.rules.specs.Rules.{holds_at}
use Rattle.rules.proofs.Case.holds_at.Goals as goal

pub returns-in-2 : goal.returns-in-2
unfolding holds_at when
returns-in-2 c = rw c.in-2.is c.check_cert_time.ensures

pub returns-in-3 : goal.returns-in-3
unfolding holds_at when
returns-in-3 c = rw c.in-3.is c.outer_inner_sig_match.ensures

pub returns-in-4 : goal.returns-in-4
unfolding holds_at when
returns-in-4 c = rw c.in-4.is c.issuer_subject_uid_version.ensures

pub returns-in-5 : goal.returns-in-5
unfolding holds_at when
returns-in-5 c = rw c.in-5.is c.key_usage_non_empty.ensures

pub returns-in-6 : goal.returns-in-6
unfolding holds_at when
returns-in-6 c = rw c.in-6.is c.key_holds.ensures

pub returns-in-7 : goal.returns-in-7
unfolding holds_at when
returns-in-7 c = rw c.in-7.is c.check_auth_subject_key_id.ensures

pub returns-in-8 : goal.returns-in-8
unfolding holds_at when
returns-in-8 c = rw c.in-8.is c.purpose_holds.ensures

pub returns-in-9 : goal.returns-in-9
unfolding holds_at when
returns-in-9 c = rw c.in-9.is c.check_ca.ensures

pub returns-in-10 : goal.returns-in-10
unfolding holds_at when
returns-in-10 c = rw c.in-10.is c.path_length_holds.ensures

pub returns-in-11 : goal.returns-in-11
unfolding holds_at when
returns-in-11 c = rw c.in-11.is c.check_san.ensures

pub returns-in-12 : goal.returns-in-12
unfolding holds_at when
returns-in-12 c = rw c.in-12.is c.empty_subject_implies_critical_san.ensures

pub returns-in-15 : goal.returns-in-15
unfolding holds_at when
returns-in-15 c = rw c.in-15.is c.host_holds.ensures

pub returns-in-16 : goal.returns-in-16
unfolding holds_at when
returns-in-16 c = rw c.in-16.is c.valid_dns_name_constraints.ensures

pub returns-in-18 : goal.returns-in-18
unfolding holds_at when
returns-in-18 c = rw c.in-18.is c.not_in_crl.ensures

pub returns-in-19 : goal.returns-in-19
unfolding holds_at when
returns-in-19 c = rw c.in-19.is c.valid_root_fingerprint.ensures

pub returns-in_default : goal.returns-in_default
unfolding holds_at
returns-in_default c =
    other _ _ (λ e. omega arith) (
    other _ _ (λ e. omega arith) (
    other _ _ (λ e. omega arith) (
    other _ _ (λ e. omega arith) (
    other _ _ (λ e. omega arith) (
    other _ _ (λ e. omega arith) (
    other _ _ (λ e. omega arith) (
    other _ _ (λ e. omega arith) (
    other _ _ (λ e. omega arith) (
    other _ _ (λ e. omega arith) (
    other _ _ (λ e. omega arith) (
    other _ _ (λ e. omega arith) (
    other _ _ (λ e. omega arith) (
    other _ _ (λ e. omega arith) (
    other _ _ (λ e. omega arith) (
    refl)))))))))))))))
