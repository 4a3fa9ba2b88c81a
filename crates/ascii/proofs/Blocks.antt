-- A text that is looked at by eight bytes: the last eight may meet those before them. Assumes nothing.
use Prim.Native.Nat.{ℕ, ◌+◌, ◌-◌, ◌≤◌, ◌<◌}
use native.Mathlib.Omega.{arith}
use native.Mathlib.Decide.{dec_lt}
use native.Mathlib.Nat.{add_assoc}
use mathlib.Core.Path.{◌≡◌, refl, sym, ◌∙◌}
use mathlib.Core.List.{List}
use mathlib.Core.Bool.{Bool, true, false, ◌||◌, or_assoc, or-false, true≢false}
use lib.ListN.{length, get_or}
use Rattle.laws.specs.Lists.{run, rows, numbers, any}
use Rattle.laws.proofs.Meaning.{any_some, some_any, any_index, index_any}

-- a test of eight numbers from i on
pub any_eight : (p : ℕ → Bool) (i : ℕ) → (p i || p (i + 1) || p (i + 2) || p (i + 3) || p (i + 4) || p (i + 5) || p (i + 6) || p (i + 7)) ≡ any p (numbers i (i + 8))
unfolding any rows run
any_eight p i = let q : i + 8 - i ≡ 8 = omega arith in rw q (simp (add_assoc, or_assoc, or-false) refl)

module _ (p : ℕ → Bool) (s : List ℕ) where
  -- none of the first i passes
  abbrev pub NoneTo : ℕ → Type 0
  NoneTo i = (k : ℕ) → k < i → p (get_or s k 0) ≡ false

  pub none_yet : NoneTo 0
  none_yet k l = absurd (omega arith)

  module _ (i : ℕ) {r : Bool} (t : r ≡ any (λ k. p (get_or s k 0)) (numbers i (i + 8))) where
    pub block_here : i + 8 ≤ length s → r ≡ true → true ≡ any p s
    block_here h y =
        let (k, l, m, e) = any_some (λ k. p (get_or s k 0)) (λ n. n) i (i + 8) (sym t ∙ y) in
        sym (index_any 0 p s (k, omega arith, omega arith, e))

    pub block_next : r ≡ false → NoneTo i → NoneTo (i + 8)
    block_next y none k l = elim (dec_lt k i) [ yes m ↦ none k m | no m ↦ go (p (get_or s k 0)) refl (omega arith) ] where
      go : (u : Bool) → p (get_or s k 0) ≡ u → i ≤ k → u ≡ false
      go true e m = absurd (true≢false (sym (some_any (λ k. p (get_or s k 0)) (λ n. n) i (i + 8) (k, m, l, e)) ∙ sym t ∙ y))
      go false e m = refl

  none_any : NoneTo (length s) → false ≡ any p s
  none_any none = go (any p s) refl where
    go : (u : Bool) → any p s ≡ u → false ≡ u
    go true e = let (k, l, m, f) = any_index 0 p s e in absurd (true≢false (sym f ∙ none k m))
    go false e = refl

  pub block_last : (i last : ℕ) {r : Bool} → last + 8 ≡ length s → last ≤ i → NoneTo i → r ≡ any (λ k. p (get_or s k 0)) (numbers last (last + 8)) → r ≡ any p s
  block_last i last {r} e l none t = go r t where
    go : (u : Bool) → u ≡ any (λ k. p (get_or s k 0)) (numbers last (last + 8)) → u ≡ any p s
    go true t = block_here last t (omega arith) refl
    go false t = none_any (λ k m. block_next last t refl (λ n h. none n (omega arith)) k (omega arith))
