-- Where the entries of one rule stand in the index of enough certificates, by the kind of its places; of no other spot it has any. Assumes nothing.
use Prim.Native.Nat.{ℕ, ◌+◌, ◌-◌, ◌≤◌, ◌<◌}
use native.Mathlib.Omega.{arith}
use mathlib.Core.Path.{◌≡◌, sym, subst}
use mathlib.Core.Logic.{inr, ⊎_elim, ◌↔◌}
use mathlib.Core.Bool.{Bool, true}
use Rattle.table.specs.declared.CertPos.{CertPos}
use Rattle.faults.specs.Report.{entry, certificate, pair}
use Rattle.faults.specs.Index.{full_index}
use Rattle.faults.specs.Places.{IsPlace, fewest}
use Rattle.faults.specs.Order.{In, DueShort, DueBroken, NoneFrom}
use Rattle.faults.specs.declared.Spot.{Spot}
use Rattle.faults.specs.declared.Places.{Places}
use Rattle.faults.specs.declared.Places.TheVariants.{Nowhere, Leaf, Root, LeafAndRoot, Each, Neighbours, Pairs}
use Rattle.faults.proofs.Theorems.{sound, complete}

module _ (short : ℕ) (T : ℕ → Spot → Bool) (P : ℕ → Places) (rules n : ℕ) (no_more : NoneFrom P rules) (enough : fewest ≤ n) (r : ℕ) where
  -- rule r has an entry at s
  abbrev Stands : Spot → Type 0
  Stands s = In (entry r s) (full_index short T P rules n)

  -- It stands where the rule is asked and broken.
  pub stands : (s : Spot) → Stands s ↔ (IsPlace (P r) n s × (T r s ≡ true))
  stands s = (
    λ m.
        ⊎_elim (λ (d : DueShort short T P n (entry r s)). absurd (omega (arith, d.few))) (λ (d : DueBroken short T P n (entry r s)). (d.place, d.broken))
        (sound short T P rules n (entry r s) m),
    λ h. complete short T P rules n no_more (entry r s) (inr (record { enough = enough; place = h.0; broken = h.1 })),
  )

  -- the same where the places are known
  module _ {p : Places} (e : P r ≡ p) (s : Spot) where
    stands_in : Stands s → IsPlace p n s × (T r s ≡ true)
    stands_in m = rw e at ((stands s).0 m)

    in_stands : IsPlace p n s → T r s ≡ true → Stands s
    in_stands h t = (stands s).1 (subst (λ (q : Places). IsPlace q n s) (sym e) h, t)

  -- A rule that is asked nowhere has no entry.
  pub nowhere_entries : P r ≡ Nowhere → (s : Spot) → Stands s → ⊥
  unfolding IsPlace
  nowhere_entries e s m = (stands_in e s m).0

  -- A rule of the leaf.
  pub leaf_entries : P r ≡ Leaf → (s : Spot) → Stands s ↔ ((s ≡ certificate 0) × (T r (certificate 0) ≡ true))
  unfolding IsPlace
  leaf_entries e s = (λ m. let (h, t) = stands_in e s m in (h, rw h at t), λ (h, t). in_stands e s h (rw h t))

  -- A rule of the root.
  pub root_entries : P r ≡ Root → (s : Spot) → Stands s ↔ ((s ≡ certificate (n - 1)) × (T r (certificate (n - 1)) ≡ true))
  unfolding IsPlace
  root_entries e s = (λ m. let (h, t) = stands_in e s m in (h, rw h at t), λ (h, t). in_stands e s h (rw h t))

  -- A rule of leaf and root together.
  pub ends_entries : P r ≡ LeafAndRoot → (s : Spot) → Stands s ↔ ((s ≡ pair 0 (n - 1)) × (T r (pair 0 (n - 1)) ≡ true))
  unfolding IsPlace
  ends_entries e s = (λ m. let (h, t) = stands_in e s m in (h, rw h at t), λ (h, t). in_stands e s h (rw h t))

  -- A rule of each certificate from `from` on, but for the last `before`.
  pub each_entries : (from : CertPos) (before : ℕ) → P r ≡ Each from before → (s : Spot)
      → Stands s ↔ ((i : ℕ) × (from.0 ≤ i) × (i + before < n) × (s ≡ certificate i) × (T r (certificate i) ≡ true))
  unfolding IsPlace
  each_entries from before e s = (
    λ m. let ((i, l, u, h), t) = stands_in e s m in (i, l, u, h, rw h at t),
    λ (i, l, u, h, t). in_stands e s (i, l, u, h) (rw h t),
  )

  -- A rule of neighbours.
  pub neighbours_entries : P r ≡ Neighbours → (s : Spot) → Stands s ↔ ((i : ℕ) × (i + 1 < n) × (s ≡ pair i (i + 1)) × (T r (pair i (i + 1)) ≡ true))
  unfolding IsPlace
  neighbours_entries e s = (
    λ m. let ((i, u, h), t) = stands_in e s m in (i, u, h, rw h at t),
    λ (i, u, h, t). in_stands e s (i, u, h) (rw h t),
  )

  -- A rule of each certificate from `from` on, but for the last `before`, with each below it.
  pub pairs_entries : (from : CertPos) (before : ℕ) → P r ≡ Pairs from before → (s : Spot)
      → Stands s ↔ ((i : ℕ) × (j : ℕ) × (from.0 ≤ i) × (i + before < n) × (j < i) × (s ≡ pair i j) × (T r (pair i j) ≡ true))
  unfolding IsPlace
  pairs_entries from before e s = (
    λ m. let ((i, j, l, u, d, h), t) = stands_in e s m in (i, j, l, u, d, h, rw h at t),
    λ (i, j, l, u, d, h, t). in_stands e s (i, j, l, u, d, h) (rw h t),
  )
