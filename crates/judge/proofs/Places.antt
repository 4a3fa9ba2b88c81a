-- From a rule's places to what holds there, by the kind of its places, over any tests and any table. Assumes nothing.
use Prim.Native.Nat.{ℕ, ◌+◌, ◌-◌, ◌≤◌, ◌<◌}
use native.Mathlib.Omega.{arith}
use native.Mathlib.Decide.{dec_lt}
use mathlib.Core.Path.{◌≡◌, refl, sym}
use mathlib.Core.Logic.{inl, inr}
use mathlib.Core.Bool.{Bool, true, false, not, true≢false}
use lib.Dec.{eqb}
use borrow.Author.Tests.{eqb-true, eqb-false}
use Rattle.table.specs.declared.CertPos.{CertPos}
use Rattle.faults.specs.Order.{Due}
use Rattle.faults.specs.Places.{IsPlace, short_entry}
use Rattle.faults.specs.Report.{entry, certificate, pair}
use Rattle.faults.specs.declared.Entry.{Entry}
use Rattle.faults.specs.declared.Spot.{Spot}
use Rattle.faults.specs.declared.Places.{Places}
use Rattle.faults.specs.declared.Places.TheVariants.{Nowhere, Leaf, Root, LeafAndRoot, Each, Neighbours, Pairs}

untrue : (x : Bool) → (x ≡ true → ⊥) → x ≡ false
untrue true h = absurd (h refl)
untrue false h = refl

pub holds : (x : Bool) → not x ≡ false → x ≡ true
holds true h = refl
holds false h = absurd (true≢false h)

pub fails : (x : Bool) → x ≡ true → not x ≡ true → ⊥
fails true e h = true≢false (sym h)
fails false e h = true≢false (sym e)

pub by_number : {A : Type 0} (r k : ℕ) → (r ≡ k → A) → ((r ≡ k → ⊥) → A) → A
by_number {A} r k f g = go (eqb r k) refl where
  go : (t : Bool) → eqb r k ≡ t → A
  go true e = f (eqb-true r k e)
  go false e = g (eqb-false r k e)

module _ (short : ℕ) (T : ℕ → Spot → Bool) (P : ℕ → Places) (n : ℕ) where
  -- ---- where nothing is due
  module _ (clear : (e : Entry) → Due short T P n e → ⊥) where
    -- the chain is long enough
    pub long : 2 ≤ n
    long = elim (dec_lt n 2) [ yes h ↦ absurd (clear (short_entry short) (inl (record { few = h; is = refl }))) | no h ↦ omega arith ]

    unbroken : (r : ℕ) (s : Spot) → IsPlace (P r) n s → T r s ≡ false
    unbroken r s p = untrue (T r s) (λ t. clear (entry r s) (inr (record { enough = long; place = p; broken = t })))

    module _ (r : ℕ) where
      pub at_leaf : P r ≡ Leaf → T r (certificate 0) ≡ false
      unfolding IsPlace
      at_leaf e = unbroken r (certificate 0) (rw e refl)

      pub at_root : P r ≡ Root → T r (certificate (n - 1)) ≡ false
      unfolding IsPlace
      at_root e = unbroken r (certificate (n - 1)) (rw e refl)

      pub at_ends : P r ≡ LeafAndRoot → T r (pair 0 (n - 1)) ≡ false
      unfolding IsPlace
      at_ends e = unbroken r (pair 0 (n - 1)) (rw e refl)

      pub at_each : (from : CertPos) (before : ℕ) → P r ≡ Each from before → (i : ℕ) → from.0 ≤ i → i + before < n → T r (certificate i) ≡ false
      unfolding IsPlace
      at_each from before e i l u = unbroken r (certificate i) (rw e (i, l, u, refl))

      pub at_neighbours : P r ≡ Neighbours → (i : ℕ) → i + 1 < n → T r (pair i (i + 1)) ≡ false
      unfolding IsPlace
      at_neighbours e i u = unbroken r (pair i (i + 1)) (rw e (i, u, refl))

      pub at_pairs : (from : CertPos) (before : ℕ) → P r ≡ Pairs from before → (i j : ℕ) → from.0 ≤ i → i + before < n → j < i → T r (pair i j) ≡ false
      unfolding IsPlace
      at_pairs from before e i j l u d = unbroken r (pair i j) (rw e (i, j, l, u, d, refl))

  -- ---- where a rule holds at its places it has no entry
  module _ (r : ℕ) (s : Spot) where
    -- rule r has no entry at s
    abbrev pub Quiet : Type 0
    Quiet = IsPlace (P r) n s → T r s ≡ true → ⊥

    pub quiet_nowhere : P r ≡ Nowhere → Quiet
    unfolding IsPlace
    quiet_nowhere e p t = rw e at p

    pub quiet_leaf : P r ≡ Leaf → (T r (certificate 0) ≡ true → ⊥) → Quiet
    unfolding IsPlace
    quiet_leaf e f p t = let q = rw e at p in f (rw q at t)

    pub quiet_root : P r ≡ Root → (T r (certificate (n - 1)) ≡ true → ⊥) → Quiet
    unfolding IsPlace
    quiet_root e f p t = let q = rw e at p in f (rw q at t)

    pub quiet_ends : P r ≡ LeafAndRoot → (T r (pair 0 (n - 1)) ≡ true → ⊥) → Quiet
    unfolding IsPlace
    quiet_ends e f p t = let q = rw e at p in f (rw q at t)

    pub quiet_each : (from : CertPos) (before : ℕ) → P r ≡ Each from before → ((i : ℕ) → from.0 ≤ i → i + before < n → T r (certificate i) ≡ true → ⊥) → Quiet
    unfolding IsPlace
    quiet_each from before e f p t = let (i, l, u, q) = rw e at p in f i l u (rw q at t)

    pub quiet_neighbours : P r ≡ Neighbours → ((i : ℕ) → i + 1 < n → T r (pair i (i + 1)) ≡ true → ⊥) → Quiet
    unfolding IsPlace
    quiet_neighbours e f p t = let (i, u, q) = rw e at p in f i u (rw q at t)

    pub quiet_pairs : (from : CertPos) (before : ℕ) → P r ≡ Pairs from before → ((i j : ℕ) → from.0 ≤ i → i + before < n → j < i → T r (pair i j) ≡ true → ⊥) → Quiet
    unfolding IsPlace
    quiet_pairs from before e f p t = let (i, j, l, u, d, q) = rw e at p in f i j l u d (rw q at t)
