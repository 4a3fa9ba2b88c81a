-- What `position` answers over the numbers of a range, said as the least that passes. Assumes nothing.
use Prim.Native.Nat.{ℕ, zero, suc, ◌+◌, ◌-◌}
use native.Mathlib.Omega.{arith}
use native.Mathlib.Nat.{add-zero}
use mathlib.Core.List.{List}
use mathlib.Core.Path.{◌≡◌, refl, sym}
use mathlib.Core.Bool.{Bool, true, false, not, cond}
use denote.Param.Members.{Mut}
use lib.Dec.{ltb}
use lib.ListN.{length}
use borrow.Author.Tests.{ltb-false}
use Rattle.std.specs.declared.option.Option.{Option}
use Rattle.std.specs.declared.option.Option.TheVariants.{Some, None}
use Rattle.std.specs.Fn.{Called}
use Rattle.std.specs.Iterator.{YieldsThen}
use Rattle.std.specs.List.{FoldsTo, position_or_len, range_with_len}
use Rattle.std.specs.Option.{MatchOption, unwrap_or}
use Rattle.std.proofs.lemmas.Iterator.{YieldsList}
use Rattle.std.proofs.lemmas.Iterator.Search.{position_from_yields_List}
use Rattle.std.proofs.lemmas.List.FromFn.{length-range_with_len}
use Rattle.std.proofs.lemmas.List.Sums.{prefix_len-le-length}
use Rattle.laws.specs.Lists.{pick, first, least}

module _ (p : ℕ → Bool) where
  first_of_run : (a n : ℕ) → first p a n ≡ a + position_or_len p (range_with_len a n)
  unfolding first
  first_of_run a zero = sym (add-zero a)
  first_of_run a (suc n) = go (p a) _ _ (first_of_run (a + 1) n) where
    go : (t : Bool) (k m : ℕ) → k ≡ a + 1 + m → pick t a k ≡ a + cond (not t) (1 + m) 0
    go true k m e = sym (add-zero a)
    go false k m e = omega (arith, e)

  -- of n numbers the first that passes, or n
  position_or : (n : ℕ) → let m = position_or_len p (range_with_len 0 n) in unwrap_or (cond (ltb m (length (range_with_len 0 n))) (Some m) None) n ≡ m
  position_or n = rw (length-range_with_len 0 n) (go (ltb m n) refl) where
    m : ℕ
    m = position_or_len p (range_with_len 0 n)

    go : (t : Bool) → ltb m n ≡ t → unwrap_or (cond t (Some m) None) n ≡ m
    go true e = refl
    go false e = omega (arith, ltb-false m n e, length-range_with_len 0 n, prefix_len-le-length (λ x. not (p x)) (range_with_len 0 n))

-- r is what the calls of a closure f answered at the numbers below n, where f is the test p
module _ {S F : Type 0} {steps : S → Option ℕ → S → Type 0} {closure : Mut F (ℕ × Unit {0}) Bool} {s : S} (p : ℕ → Bool) (n : ℕ) (u : S) {f : F} {r : Option ℕ} where
  pub position_over : (xs : List ℕ) × (o : Option ℕ) × (j : F) × YieldsThen steps s xs o u × FoldsTo (λ q x k. Called closure q (x, tt) false k) f xs j × MatchOption o (r ≡ None) (λ x. (r ≡ Some (length xs)) × ((h : F) × Called closure j (x, tt) true h))
      → YieldsList steps (λ x. x) s (range_with_len 0 (n - 0)) → ((x : ℕ) (b : Bool) (q : F) → Called closure f (x, tt) b q → (q ≡ f) × (b ≡ p x)) → unwrap_or r n ≡ least p 0 n
  unfolding least
  position_over ran yields tells =
      let found = position_from_yields_List p u f r ran yields tells in
      let whole : n - 0 ≡ n = omega arith in
      rw (found, whole, position_or p n, first_of_run p 0 n) (omega arith)
