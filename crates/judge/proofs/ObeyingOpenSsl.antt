-- A chain obeys OpenSSL's rules exactly if no entry is due: each rule at its places, and no rule besides. Written by tools/obeying.py. Assumes nothing.
use Prim.Native.Nat.{ℕ}
use native.Mathlib.Omega.{arith}
use mathlib.Core.Path.{refl, sym, subst}
use mathlib.Core.Logic.{⊎_elim}
use mathlib.Core.Bool.{Bool}
use Rattle.model.specs.Model.{Chain, Lists}
use Rattle.faults.specs.Order.{Due, DueShort, DueBroken}
use Rattle.faults.specs.Places.{when}
use Rattle.faults.specs.declared.Entry.{Entry}
use Rattle.faults.specs.declared.Spot.{Spot}
use Rattle.faults.specs.declared.Places.{Places}
use Rattle.faults.proofs.Laws.{other}
use Rattle.policies.specs.Tables.{places_of, open_ssl_places, short}
use Rattle.rules.specs.Rules.{broken, broken_at, broken_between, holds_at, holds_between}
use Rattle.policies.specs.declared.Policy.TheVariants.{OpenSsl}
use Rattle.judge.specs.Obeys.{ObeysOpenSsl}
use Rattle.judge.proofs.Places.{holds, fails, by_number, long, at_each, at_leaf, at_neighbours, at_pairs, Quiet, quiet_nowhere, quiet_each, quiet_leaf, quiet_neighbours, quiet_pairs}

module _ (c : Chain) (l : Lists) where
  abbrev n : ℕ
  n = c.count

  abbrev T : ℕ → Spot → Bool
  T = broken OpenSsl c l

  abbrev P : ℕ → Places
  P = places_of OpenSsl

  pub obeys : ((e : Entry) → Due short T P n e → ⊥) → ObeysOpenSsl c
  unfolding places_of open_ssl_places when broken broken_at broken_between holds_at holds_between
  obeys clear = record {
    rule_1 = long short T P n clear;
    rule_2 = λ i u. holds _ (at_each short T P n clear 2 _ _ refl i (omega arith) (omega arith));
    rule_3 = λ i u. holds _ (at_each short T P n clear 3 _ _ refl i (omega arith) (omega arith));
    rule_4 = λ i u. holds _ (at_each short T P n clear 4 _ _ refl i (omega arith) (omega arith));
    rule_5 = λ i u. holds _ (at_each short T P n clear 5 _ _ refl i (omega arith) (omega arith));
    rule_6 = λ i u. holds _ (at_each short T P n clear 6 _ _ refl i (omega arith) (omega arith));
    rule_7 = λ i u. holds _ (at_each short T P n clear 7 _ _ refl i (omega arith) (omega arith));
    rule_8 = λ i u. holds _ (at_each short T P n clear 8 _ _ refl i (omega arith) (omega arith));
    rule_9 = λ i l u. holds _ (at_each short T P n clear 9 _ _ refl i l (omega arith));
    rule_10 = λ i u. holds _ (at_each short T P n clear 10 _ _ refl i (omega arith) (omega arith));
    rule_11 = λ i u. holds _ (at_each short T P n clear 11 _ _ refl i (omega arith) (omega arith));
    rule_12 = holds _ (at_leaf short T P n clear 12 refl);
    rule_13 = λ i u. holds _ (at_neighbours short T P n clear 13 refl i u);
    rule_14 = λ i j l u d. holds _ (at_pairs short T P n clear 14 _ _ refl i j l (omega arith) d);
    rule_15 = holds _ (at_leaf short T P n clear 15 refl);
  }

  quiet : ObeysOpenSsl c → (r : ℕ) (s : Spot) → Quiet short T P n r s
  unfolding places_of open_ssl_places when broken broken_at broken_between holds_at holds_between
  quiet o r s =
      by_number r 2 (λ e. subst (λ (r : ℕ). Quiet short T P n r s) (sym e) (quiet_each short T P n 2 s _ _ refl (λ i l u. fails _ (o.rule_2 i (omega arith))))) (λ h2.
      by_number r 3 (λ e. subst (λ (r : ℕ). Quiet short T P n r s) (sym e) (quiet_each short T P n 3 s _ _ refl (λ i l u. fails _ (o.rule_3 i (omega arith))))) (λ h3.
      by_number r 4 (λ e. subst (λ (r : ℕ). Quiet short T P n r s) (sym e) (quiet_each short T P n 4 s _ _ refl (λ i l u. fails _ (o.rule_4 i (omega arith))))) (λ h4.
      by_number r 5 (λ e. subst (λ (r : ℕ). Quiet short T P n r s) (sym e) (quiet_each short T P n 5 s _ _ refl (λ i l u. fails _ (o.rule_5 i (omega arith))))) (λ h5.
      by_number r 6 (λ e. subst (λ (r : ℕ). Quiet short T P n r s) (sym e) (quiet_each short T P n 6 s _ _ refl (λ i l u. fails _ (o.rule_6 i (omega arith))))) (λ h6.
      by_number r 7 (λ e. subst (λ (r : ℕ). Quiet short T P n r s) (sym e) (quiet_each short T P n 7 s _ _ refl (λ i l u. fails _ (o.rule_7 i (omega arith))))) (λ h7.
      by_number r 8 (λ e. subst (λ (r : ℕ). Quiet short T P n r s) (sym e) (quiet_each short T P n 8 s _ _ refl (λ i l u. fails _ (o.rule_8 i (omega arith))))) (λ h8.
      by_number r 9 (λ e. subst (λ (r : ℕ). Quiet short T P n r s) (sym e) (quiet_each short T P n 9 s _ _ refl (λ i l u. fails _ (o.rule_9 i l (omega arith))))) (λ h9.
      by_number r 10 (λ e. subst (λ (r : ℕ). Quiet short T P n r s) (sym e) (quiet_each short T P n 10 s _ _ refl (λ i l u. fails _ (o.rule_10 i (omega arith))))) (λ h10.
      by_number r 11 (λ e. subst (λ (r : ℕ). Quiet short T P n r s) (sym e) (quiet_each short T P n 11 s _ _ refl (λ i l u. fails _ (o.rule_11 i (omega arith))))) (λ h11.
      by_number r 12 (λ e. subst (λ (r : ℕ). Quiet short T P n r s) (sym e) (quiet_leaf short T P n 12 s refl (fails _ o.rule_12))) (λ h12.
      by_number r 13 (λ e. subst (λ (r : ℕ). Quiet short T P n r s) (sym e) (quiet_neighbours short T P n 13 s refl (λ i u. fails _ (o.rule_13 i u)))) (λ h13.
      by_number r 14 (λ e. subst (λ (r : ℕ). Quiet short T P n r s) (sym e) (quiet_pairs short T P n 14 s _ _ refl (λ i j l u d. fails _ (o.rule_14 i j l (omega arith) d)))) (λ h14.
      by_number r 15 (λ e. subst (λ (r : ℕ). Quiet short T P n r s) (sym e) (quiet_leaf short T P n 15 s refl (fails _ o.rule_15))) (λ h15.
      quiet_nowhere short T P n r s (sym (
      other _ _ h2 (
      other _ _ h3 (
      other _ _ h4 (
      other _ _ h5 (
      other _ _ h6 (
      other _ _ h7 (
      other _ _ h8 (
      other _ _ h9 (
      other _ _ h10 (
      other _ _ h11 (
      other _ _ h12 (
      other _ _ h13 (
      other _ _ h14 (
      other _ _ h15 (
      refl))))))))))))))))))))))))))))))

  pub obeyed : ObeysOpenSsl c → (e : Entry) → Due short T P n e → ⊥
  obeyed o e = ⊎_elim (λ (d : DueShort short T P n e). omega (arith, d.few, o.rule_1)) (λ (d : DueBroken short T P n e). quiet o e.rule.0 e.spot d.place d.broken)
