-- The laws of counting the entries of an index. Theorems.antt says what they add up to. Assumes nothing.
use Prim.Native.Nat.{ℕ, zero, suc, ◌+◌, ◌-◌, ◌*◌, ◌/◌, ◌≤◌}
use native.Mathlib.Omega.{arith}
use native.Mathlib.Decide.{dec_lt}
use native.Mathlib.Nat.{add-zero, add-suc, suc-mul, mul-suc, add-mul, mul-div_cancel_left}
use mathlib.Core.Path.{◌≡◌, refl}
use mathlib.Core.List.{List}
use mathlib.Core.Bool.{Bool, true, false}
use lib.ListN.{length, length-append}
use Rattle.faults.specs.Report.{one, certificate, pair}
use Rattle.faults.specs.Index.{gather, asked, row, entries_at, index}
use Rattle.faults.specs.Count.{sum, places_count, is_single, is_pairs, single_rules, pair_rules}
use Rattle.faults.specs.declared.Spot.{Spot}
use Rattle.faults.specs.declared.Entry.{Entry}
use Rattle.faults.specs.declared.Places.{Places}
use Rattle.faults.specs.declared.Places.TheVariants.{Nowhere, Leaf, Root, LeafAndRoot, Each, Neighbours, Pairs}

-- ---- sums

-- 0 + 1 + .. + (n - 1)
triangle : ℕ → ℕ
triangle = sum (λ k. k)

double_triangle : (n : ℕ) → 2 * triangle (suc n) ≡ suc n * n
unfolding sum triangle
double_triangle zero = refl
double_triangle (suc n) = omega (arith, double_triangle n, suc-mul (suc n) (suc n), mul-suc (suc n) n)

triangle_is : (n : ℕ) → n * (n - 1) / 2 ≡ triangle n
unfolding sum triangle
triangle_is zero = refl
triangle_is (suc n) = let q : suc n - 1 ≡ n = omega arith in rw (q, ← double_triangle n) (mul-div_cancel_left (triangle (suc n)) (omega arith))

-- a + (a + 1) + .. are the last of 0 + 1 + ..
sum_from : (a k : ℕ) → sum (λ j. a + j) k + triangle a ≡ triangle (a + k)
unfolding sum triangle
sum_from a zero = rw add-zero (omega arith)
sum_from a (suc k) = rw add-suc (omega (arith, sum_from a k))

triangle_up : (m n : ℕ) → m ≤ n → triangle m ≤ triangle n
unfolding sum triangle
triangle_up m zero h = let q : m ≡ 0 = omega arith in rw q (omega arith)
triangle_up m (suc n) h = elim (dec_lt m (suc n)) [ yes l ↦ omega (arith, triangle_up m n (omega arith)) | no l ↦ let q : m ≡ suc n = omega arith in rw q (omega arith) ]

-- more certificates have no fewer pairs
pub pairs_up : (m n : ℕ) → m ≤ n → m * (m - 1) / 2 ≤ n * (n - 1) / 2
pairs_up m n h = rw (triangle_is m, triangle_is n) (triangle_up m n h)

-- ---- lengths

length_gather : (f : ℕ → List Entry) (g : ℕ → ℕ) → ((k : ℕ) → length (f k) ≤ g k) → (n : ℕ) → length (gather f n) ≤ sum g n
unfolding gather sum
length_gather f g h zero = omega arith
length_gather f g h (suc n) = omega (arith, length-append (gather f n) (f n), length_gather f g h n, h n)

sum_ones : (n : ℕ) → sum (λ k. 1) n ≡ n
unfolding sum
sum_ones zero = refl
sum_ones (suc n) = omega (arith, sum_ones n)

length_one : (t : Bool) (e : Entry) → length (one t e) ≤ 1
unfolding one
length_one true e = omega arith
length_one false e = omega arith

module _ (T : ℕ → Spot → Bool) where
  length_asked : (r : ℕ) (s : Spot) → length (asked T r s) ≤ 1
  unfolding asked
  length_asked r s = length_one (T r s) _

  -- at most one entry at each of n spots
  length_spots : (r : ℕ) (s : ℕ → Spot) (n : ℕ) → length (gather (λ (k : ℕ). asked T r (s k)) n) ≤ n
  length_spots r s n = omega (arith, length_gather (λ (k : ℕ). asked T r (s k)) (λ k. 1) (λ k. length_asked r (s k)) n, sum_ones n)

  rule_length : (p : Places) (r n : ℕ) → length (entries_at T p r n) ≤ places_count p n
  unfolding entries_at row places_count
  rule_length Nowhere r n = omega arith
  rule_length Leaf r n = length_asked r _
  rule_length Root r n = length_asked r _
  rule_length LeafAndRoot r n = length_asked r _
  rule_length (Each f b) r n = length_spots r (λ k. certificate (f.0 + k)) (n - b - f.0)
  rule_length Neighbours r n = length_spots r (λ k. pair k (k + 1)) (n - 1)
  rule_length (Pairs f b) r n =
      length_gather (λ (k : ℕ). row T r (f.0 + k) (f.0 + k)) (λ k. f.0 + k) (λ k. length_spots r (λ j. pair (f.0 + k) j) (f.0 + k)) (n - b - f.0)

  pub index_length : (P : ℕ → Places) (n rules : ℕ) → length (index T P n rules) ≤ sum (λ r. places_count (P r) n) rules
  unfolding index
  index_length P n rules = length_gather (λ (r : ℕ). entries_at T (P r) r n) (λ r. places_count (P r) n) (λ r. rule_length (P r) r n) rules

-- ---- places by their kind

pairs_most : (f b n : ℕ) → sum (λ k. f + k) (n - b - f) ≤ triangle n
unfolding sum
pairs_most f b n =
    let k : ℕ = n - b - f in
    elim (dec_lt n f) [
      | yes l ↦ let q : k ≡ 0 = omega arith in rw q (omega arith)
      | no l ↦ omega (arith, sum_from f k, triangle_up (f + k) n (omega arith))
    ]

kind_most : (p : Places) (n : ℕ) → 1 ≤ n → places_count p n ≤ is_single p * n + is_pairs p * triangle n
unfolding places_count is_single is_pairs
kind_most Nowhere n h = omega arith
kind_most Leaf n h = omega arith
kind_most Root n h = omega arith
kind_most LeafAndRoot n h = omega arith
kind_most (Each f b) n h = omega arith
kind_most Neighbours n h = omega arith
kind_most (Pairs f b) n h = omega (arith, pairs_most f.0 b n)

pub table_most : (P : ℕ → Places) (n rules : ℕ) → 1 ≤ n → sum (λ r. places_count (P r) n) rules ≤ single_rules P rules * n + pair_rules P rules * (n * (n - 1) / 2)
unfolding sum single_rules pair_rules
table_most P n zero h = omega arith
table_most P n (suc rules) h =
    omega (
      arith,
      table_most P n rules h,
      rw (← triangle_is n) at (kind_most (P rules) n h),
      add-mul (sum (λ r. is_single (P r)) rules) (is_single (P rules)) n,
      add-mul (sum (λ r. is_pairs (P r)) rules) (is_pairs (P rules)) (n * (n - 1) / 2),
    )
