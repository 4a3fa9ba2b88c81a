-- What a chain over the numbers of a range answers: `any` and `all` of std, said of rows. Assumes nothing.
use mathlib.Core.Path.{◌≡◌, refl, sym, ap, ◌∙◌}
use Prim.Native.Nat.{ℕ, zero, suc, ◌+◌, ◌-◌, ◌≤◌}
use native.Mathlib.Omega.{arith}
use mathlib.Core.Bool.{Bool, true, false}
use mathlib.Core.List.{List}
use denote.Param.Members.{Mut}
use Rattle.std.specs.Prelude.{◌&&◌, ◌||◌}
use Rattle.std.specs.declared.option.Option.{Option}
use Rattle.std.specs.Fn.{Called}
use Rattle.std.specs.Iterator.{YieldsThen}
use Rattle.std.specs.List.{FoldsTo, list_any, list_all, range_with_len, zip}
use Rattle.std.specs.Option.{MatchOption}
use Rattle.std.proofs.lemmas.Iterator.{YieldsList}
use Rattle.std.proofs.lemmas.Iterator.Search.{any_from_yields_List, all_from_yields_List}
use Rattle.laws.specs.Lists.{rows, run, any, all, each, front}
use Rattle.laws.proofs.Pairs.{each_is_front}
use Rattle.laws.proofs.Rows.{rows_length}

any_of_run : {A : Type 0} (p : A → Bool) (g : ℕ → A) (a n : ℕ) → list_any (λ i. p (g i)) (range_with_len a n) ≡ any p (run g a n)
unfolding any run
any_of_run p g a zero = refl
any_of_run p g a (suc n) = ap (λ b. p (g a) || b) (any_of_run p g (a + 1) n)

all_of_run : {A : Type 0} (p : A → Bool) (g : ℕ → A) (a n : ℕ) → list_all (λ i. p (g i)) (range_with_len a n) ≡ all p (run g a n)
unfolding all run
all_of_run p g a zero = refl
all_of_run p g a (suc n) = ap (λ b. p (g a) && b) (all_of_run p g (a + 1) n)

-- r is what the calls of a closure f answered at the numbers from a up to e, where f is a test p of the row that g reads at a number
module _ {A S F : Type 0} {steps : S → Option ℕ → S → Type 0} {closure : Mut F (ℕ × Unit {0}) Bool} {s : S} (p : A → Bool) (g : ℕ → A) (a e : ℕ) (u : S) {f : F} {r : Bool} where
  pub any_over : (xs : List ℕ) × (o : Option ℕ) × (j : F) × YieldsThen steps s xs o u × FoldsTo (λ q x k. Called closure q (x, tt) false k) f xs j × MatchOption o (r ≡ false) (λ x. (r ≡ true) × ((h : F) × Called closure j (x, tt) true h))
      → YieldsList steps (λ x. x) s (range_with_len a (e - a)) → ((x : ℕ) (b : Bool) (q : F) → Called closure f (x, tt) b q → (q ≡ f) × (b ≡ p (g x))) → r ≡ any p (rows g a e)
  unfolding rows
  any_over ran yields tells = any_from_yields_List (λ i. p (g i)) u f r ran yields tells ∙ any_of_run p g a (e - a)

  pub all_over : (xs : List ℕ) × (o : Option ℕ) × (j : F) × YieldsThen steps s xs o u × FoldsTo (λ q x k. Called closure q (x, tt) true k) f xs j × MatchOption o (r ≡ true) (λ x. (r ≡ false) × ((h : F) × Called closure j (x, tt) false h))
      → YieldsList steps (λ x. x) s (range_with_len a (e - a)) → ((x : ℕ) (b : Bool) (q : F) → Called closure f (x, tt) b q → (q ≡ f) × (b ≡ p (g x))) → r ≡ all p (rows g a e)
  unfolding rows
  all_over ran yields tells = all_from_yields_List (λ i. p (g i)) u f r ran yields tells ∙ all_of_run p g a (e - a)

front_of_zip : {A B : Type 0} (p : A → B → Bool) (g : ℕ → A) (h : ℕ → B) (a b n m : ℕ) → n ≤ m → list_all (λ q. p (g q.0) (h q.1)) (zip (range_with_len a n) (range_with_len b m)) ≡ front p (run g a n) (run h b m)
unfolding front run
front_of_zip p g h a b zero m l = refl
front_of_zip p g h a b (suc n) zero l = absurd (omega arith)
front_of_zip p g h a b (suc n) (suc m) l = ap (λ t. p (g a) (h b) && t) (front_of_zip p g h (a + 1) (b + 1) n m (omega arith))

-- the same of two ranges in step, of n and m numbers, where f is a test of a row of each
module _ {A B S F : Type 0} {steps : S → Option (ℕ × ℕ) → S → Type 0} {closure : Mut F ((ℕ × ℕ) × Unit {0}) Bool} {s : S} (p : A → B → Bool) (g : ℕ → A) (h : ℕ → B) (a e b t : ℕ) (u : S) {f : F} {r : Bool} {n m : ℕ} where
  pub front_over : n ≡ e - a → m ≡ t - b → n ≤ m
      → (xs : List (ℕ × ℕ)) × (o : Option (ℕ × ℕ)) × (j : F) × YieldsThen steps s xs o u × FoldsTo (λ q x k. Called closure q (x, tt) true k) f xs j × MatchOption o (r ≡ true) (λ x. (r ≡ false) × ((k : F) × Called closure j (x, tt) false k))
      → YieldsList {B = ℕ × ℕ} steps (λ q. (q.0, q.1)) s (zip (range_with_len a (e - a)) (range_with_len b (t - b))) → ((x : ℕ × ℕ) (c : Bool) (q : F) → Called closure f (x, tt) c q → (q ≡ f) × (c ≡ p (g x.0) (h x.1))) → r ≡ front p (rows g a e) (rows h b t)
  unfolding rows
  front_over i k l ran yields tells = all_from_yields_List {B = ℕ × ℕ} (λ q. p (g q.0) (h q.1)) u f r ran yields tells ∙ front_of_zip p g h a b (e - a) (t - b) (omega arith)

  pub each_over : n ≡ e - a → m ≡ t - b → n ≡ m
      → (xs : List (ℕ × ℕ)) × (o : Option (ℕ × ℕ)) × (j : F) × YieldsThen steps s xs o u × FoldsTo (λ q x k. Called closure q (x, tt) true k) f xs j × MatchOption o (r ≡ true) (λ x. (r ≡ false) × ((k : F) × Called closure j (x, tt) false k))
      → YieldsList {B = ℕ × ℕ} steps (λ q. (q.0, q.1)) s (zip (range_with_len a (e - a)) (range_with_len b (t - b))) → ((x : ℕ × ℕ) (c : Bool) (q : F) → Called closure f (x, tt) c q → (q ≡ f) × (c ≡ p (g x.0) (h x.1))) → r ≡ each p (rows g a e) (rows h b t)
  each_over i k l ran yields tells = front_over i k (omega arith) ran yields tells ∙ sym (each_is_front p (rows g a e) (rows h b t) (rows_length g a e ∙ sym i ∙ l ∙ k ∙ sym (rows_length h b t)))
