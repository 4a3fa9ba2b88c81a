-- How the entries of a chain are gathered, one place after the other. Only the contracts of writers cite it, and nobody has to believe it: proofs/Theorems.antt says which list it is. Assumes nothing.
use Rattle.std.specs.Prelude.{ℕ, zero, suc, ◌+◌, ◌-◌, List, [], ◌∷◌, ◌++◌, Bool, ltb}
use Rattle.laws.specs.Lists.{pick}
use Rattle.faults.specs.Report.{entry, one, certificate, pair}
use Rattle.faults.specs.Places.{fewest, short_entry}
use Rattle.faults.specs.declared.Spot.{Spot}
use Rattle.faults.specs.declared.Entry.{Entry}
use Rattle.faults.specs.declared.Places.{Places}
use Rattle.faults.specs.declared.Places.TheVariants.{Nowhere, Leaf, Root, LeafAndRoot, Each, Neighbours, Pairs}

-- f 0, f 1, .., f (n - 1), one after the other
unfoldable pub gather : (ℕ → List Entry) → ℕ → List Entry
gather f zero = []
gather f (suc n) = gather f n ++ f n

-- T r s: rule r is broken at s
module _ (T : ℕ → Spot → Bool) where
  -- what rule r owes at s
  unfoldable pub asked : ℕ → Spot → List Entry
  asked r s = one (T r s) (entry r s)

  -- at k certificates from `from` on
  abbrev pub each : ℕ → ℕ → ℕ → List Entry
  each r from = gather (λ (k : ℕ). asked r (certificate (from + k)))

  -- at the first k pairs of neighbours
  abbrev pub neighbours : ℕ → ℕ → List Entry
  neighbours r = gather (λ (i : ℕ). asked r (pair i (i + 1)))

  -- at the pairs of i and each j below k
  unfoldable pub row : ℕ → ℕ → ℕ → List Entry
  row r i k = gather (λ (j : ℕ). asked r (pair i j)) k

  -- at the pairs of k certificates from `from` on, each with all below it
  abbrev pub pairs : ℕ → ℕ → ℕ → List Entry
  pairs r from = gather (λ (k : ℕ). row r (from + k) (from + k))

  -- at all its places p, of n certificates, in ascending order
  unfoldable pub entries_at : Places → ℕ → ℕ → List Entry
  entries_at Nowhere r n = []
  entries_at Leaf r n = asked r (certificate 0)
  entries_at Root r n = asked r (certificate (n - 1))
  entries_at LeafAndRoot r n = asked r (pair 0 (n - 1))
  entries_at (Each from before) r n = each r from.0 (n - before - from.0)
  entries_at Neighbours r n = neighbours r (n - 1)
  entries_at (Pairs from before) r n = pairs r from.0 (n - before - from.0)

  -- what the rules below `rules` owe, in order; P r are the places of rule r
  unfoldable pub index : (ℕ → Places) → ℕ → ℕ → List Entry
  index P n rules = gather (λ (r : ℕ). entries_at (P r) r n) rules

-- all entries of a chain of n certificates: of too few the entry of rule `short` alone, and else the index
unfoldable pub full_index : ℕ → (ℕ → Spot → Bool) → (ℕ → Places) → ℕ → ℕ → List Entry
full_index short T P rules n = pick (ltb n fewest) (short_entry short ∷ []) (index T P n rules)
