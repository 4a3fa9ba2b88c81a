-- How many entries there can be: places of a rule, and rules of a table by what they ask. Assumes nothing.
use Rattle.std.specs.Prelude.{ℕ, zero, suc, ◌+◌, ◌-◌}
use Rattle.faults.specs.declared.Places.{Places}
use Rattle.faults.specs.declared.Places.TheVariants.{Nowhere, Leaf, Root, LeafAndRoot, Each, Neighbours, Pairs}

-- g 0 + g 1 + .. + g (n - 1)
unfoldable pub sum : (ℕ → ℕ) → ℕ → ℕ
sum g zero = 0
sum g (suc n) = sum g n + g n

-- how many places p are, of n certificates
unfoldable pub places_count : Places → ℕ → ℕ
places_count Nowhere n = 0
places_count Leaf n = 1
places_count Root n = 1
places_count LeafAndRoot n = 1
places_count (Each from before) n = n - before - from.0
places_count Neighbours n = n - 1
places_count (Pairs from before) n = sum (λ k. from.0 + k) (n - before - from.0)

-- 1 for places that are single certificates or single pairs: at most one for each certificate
unfoldable pub is_single : Places → ℕ
is_single Nowhere = 0
is_single Leaf = 1
is_single Root = 1
is_single LeafAndRoot = 1
is_single (Each from before) = 1
is_single Neighbours = 1
is_single (Pairs from before) = 0

-- 1 for all pairs
unfoldable pub is_pairs : Places → ℕ
is_pairs Nowhere = 0
is_pairs Leaf = 0
is_pairs Root = 0
is_pairs LeafAndRoot = 0
is_pairs (Each from before) = 0
is_pairs Neighbours = 0
is_pairs (Pairs from before) = 1

-- how many rules below `rules` ask at most one place for each certificate, and how many ask all pairs
unfoldable pub single_rules : (ℕ → Places) → ℕ → ℕ
single_rules P = sum (λ r. is_single (P r))

unfoldable pub pair_rules : (ℕ → Places) → ℕ → ℕ
pair_rules P = sum (λ r. is_pairs (P r))
