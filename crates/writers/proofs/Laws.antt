-- What the proofs of the writers rest on. Assumes nothing.
use Prim.Native.Nat.{ℕ, zero, suc, ◌+◌, ◌-◌, ◌<◌}
use native.Mathlib.Omega.{arith}
use mathlib.Core.Path.{◌≡◌, refl, sym, ap, ◌∙◌}
use mathlib.Core.List.{List, []}
use mathlib.Core.Bool.{Bool, true, false, not, true≢false, not-not}
use Rattle.laws.specs.Lists.{any, rows}
use Rattle.laws.proofs.Meaning.{some_any}
use Rattle.model.specs.Model.{Chain, Lists}
use Rattle.faults.specs.Index.{gather, asked, each, row, full_index}
use Rattle.faults.specs.Order.{Reported}
use Rattle.faults.specs.Report.{certificate, one, Wrote, none_yet}
use Rattle.faults.specs.declared.Entry.{Entry}
use Rattle.faults.specs.declared.Spot.{Spot}
use Rattle.faults.specs.declared.Tally.{Tally}
use Rattle.faults.proofs.Laws.{wrote_none}
use Rattle.faults.proofs.Theorems.{reported}
use Rattle.policies.proofs.Laws.{no_more}
use Rattle.rules.proofs.Laws.{asks_nothing_law}
use Rattle.policies.specs.Tables.{places_of, rules, short}
use Rattle.rules.specs.Rules.{broken, asks_nothing}
use Rattle.policies.specs.declared.Policy.{Policy}

-- whoever writes the index of a chain writes the whole report
pub whole : (p : Policy) (c : Chain) (l : Lists) {n : ℕ} {old new : List ℕ} {t : Tally} → Wrote (full_index short (broken p c l) (places_of p) rules n) old new t → Reported short (broken p c l) (places_of p) n old new t
whole p c l {n} = reported short (broken p c l) (places_of p) rules n (no_more p)

-- a row of pairs of which none is asked
pub row_unasked : (p : Policy) (c : Chain) (l : Lists) (r i : ℕ) (old : List ℕ) → asks_nothing c r i ≡ true → Wrote (row (broken p c l) r i i) old old none_yet
unfolding row gather asked one
row_unasked p c l r i old h = rw (empty i) (wrote_none old) where
  empty : (k : ℕ) → row (broken p c l) r i k ≡ []
  empty zero = refl
  empty (suc k) = rw (asks_nothing_law p c l r i k h, empty k) refl

-- turns that write nothing
gather_empty : (f : ℕ → List Entry) (n : ℕ) → ((k : ℕ) → k < n → f k ≡ []) → gather f n ≡ []
unfolding gather
gather_empty f zero h = refl
gather_empty f (suc n) h = rw (gather_empty f n (λ k l. h k (omega arith)), h n (omega arith)) refl

-- where no certificate from a up to e breaks the rule
pub each_unbroken : (T : ℕ → Spot → Bool) (r a e : ℕ) (old : List ℕ) {t : Bool} → t ≡ any (T r) (rows certificate a e) → not t ≡ true → Wrote (each T r a (e - a)) old old none_yet
unfolding asked one
each_unbroken T r a e old {t} q h = rw (gather_empty (λ k. asked T r (certificate (a + k))) (e - a) empty) (wrote_none old) where
  holds : (k : ℕ) → k < e - a → (x : Bool) → T r (certificate (a + k)) ≡ x → x ≡ false
  holds k l true y = absurd (true≢false (sym (some_any (T r) certificate a e (a + k, omega arith, omega arith, y)) ∙ sym q ∙ sym (not-not t) ∙ ap not h))
  holds k l false y = refl

  empty : (k : ℕ) → k < e - a → asked T r (certificate (a + k)) ≡ []
  empty k l = rw (holds k l (T r (certificate (a + k))) refl) refl
