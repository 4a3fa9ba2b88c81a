-- What stands in the index, in what order, and that no other list is like it. Theorems.antt says what these add up to. Assumes nothing.
use Prim.Native.Nat.{ℕ, zero, suc, ◌+◌, ◌-◌, ◌<◌}
use native.Mathlib.Omega.{arith}
use native.Mathlib.Nat.{eq-or-lt_of_le, le_of_suc-le-suc}
use mathlib.Core.Path.{◌≡◌, refl, sym, ap₂, subst, ◌∙◌}
use mathlib.Core.Logic.{◌⊎◌, inl, inr, ⊎_elim}
use mathlib.Core.List.Memᴰ
use mathlib.Core.List.{List, [], ◌∷◌, ◌++◌}
use mathlib.Core.Bool.{Bool, true, false}
use Rattle.faults.specs.Report.{entry, one, certificate, pair, first_word, second_word}
use Rattle.faults.specs.Index.{gather, asked, row, entries_at, index}
use Rattle.faults.specs.Places.{IsPlace}
use Rattle.faults.specs.Order.{In, Less, Ascending}
use Rattle.faults.specs.declared.Spot.{Spot}
use Rattle.faults.specs.declared.Entry.{Entry}
use Rattle.faults.specs.declared.Places.{Places}
use Rattle.faults.specs.declared.Places.TheVariants.{Nowhere, Leaf, Root, LeafAndRoot, Each, Neighbours, Pairs}

-- ---- members of the parts

one_in : {t : Bool} {x e : Entry} → In e (one t x) → (t ≡ true) × (e ≡ x)
unfolding one
one_in {t = true} m = (refl, Memᴰ.eq_of_singleton m)
one_in {t = false} m = absurd (Memᴰ.not-nil m)

in_one : {t : Bool} {x : Entry} → t ≡ true → In x (one t x)
unfolding one
in_one h = rw h (Memᴰ.head refl)

module _ (f : ℕ → List Entry) where
  gather_in : (n : ℕ) {e : Entry} → In e (gather f n) → (k : ℕ) × (k < n) × In e (f k)
  unfolding gather
  gather_in zero m = absurd (Memᴰ.not-nil m)
  gather_in (suc n) {e} m =
      ⊎_elim
      (λ (h : In e (gather f n)). let r = gather_in n h in (r.0, omega arith, r.2))
      (λ (h : In e (f n)). (n, omega arith, h))
      (Memᴰ.append_cases (gather f n) m)

  in_gather : (n k : ℕ) {e : Entry} → k < n → In e (f k) → In e (gather f n)
  unfolding gather
  in_gather zero k l m = absurd (omega arith)
  in_gather (suc n) k {e} l m =
      ⊎_elim
      (λ (q : k ≡ n). Memᴰ.append_right (gather f n) (subst (λ (x : ℕ). In e (f x)) q m))
      (λ (q : k < n). Memᴰ.append_left (f n) (in_gather n k q m))
      (eq-or-lt_of_le (le_of_suc-le-suc l))

-- ---- the list ascends

asc_append : (a b : List Entry) → Ascending a → Ascending b → ((x y : Entry) → In x a → In y b → Less x y) → Ascending (a ++ b)
asc_append [] b p q h = q
asc_append (x ∷ a) b p q h = (
  λ y m. ⊎_elim (λ (l : In y a). p.0 y l) (λ (l : In y b). h x y (Memᴰ.head refl) l) (Memᴰ.append_cases a m),
  asc_append a b p.1 q (λ u v m n. h u v (Memᴰ.tail m) n),
)

asc_one : (t : Bool) (e : Entry) → Ascending (one t e)
unfolding one
asc_one true e = (λ y m. absurd (Memᴰ.not-nil m), tt)
asc_one false e = tt

asc_gather : (f : ℕ → List Entry) → ((k : ℕ) → Ascending (f k)) → ((k m : ℕ) → k < m → (x y : Entry) → In x (f k) → In y (f m) → Less x y) → (n : ℕ) → Ascending (gather f n)
unfolding gather
asc_gather f a o zero = tt
asc_gather f a o (suc n) =
    asc_append (gather f n) (f n) (asc_gather f a o n) (a n) (λ x y m l. let r = gather_in f n m in o r.0 n r.1 x y r.2 l)

-- ---- of any test T

module _ (T : ℕ → Spot → Bool) where
  -- what stands at s is the entry of r at s, broken there
  asked_in : (r : ℕ) (s : Spot) {e : Entry} → In e (asked T r s) → (T r s ≡ true) × (e ≡ entry r s)
  unfolding asked
  asked_in r s m = one_in m

  in_asked : (r : ℕ) (s : Spot) → T r s ≡ true → In (entry r s) (asked T r s)
  unfolding asked
  in_asked r s h = in_one h

  asc_asked : (r : ℕ) (s : Spot) → Ascending (asked T r s)
  unfolding asked
  asc_asked r s = asc_one (T r s) (entry r s)

  -- entries at spots that are a function of a number, whose words rise with it
  asc_spots : (r : ℕ) (s : ℕ → Spot)
      → ((k m : ℕ) → k < m → (first_word (s k) < first_word (s m)) ⊎ ((first_word (s k) ≡ first_word (s m)) × (second_word (s k) < second_word (s m))))
      → (n : ℕ) → Ascending (gather (λ (k : ℕ). asked T r (s k)) n)
  asc_spots r s o n =
      asc_gather (λ (k : ℕ). asked T r (s k)) (λ k. asc_asked r (s k))
      (λ k m l x y p q. rw ((asked_in r (s k) p).1, (asked_in r (s m) q).1) (inr (refl, o k m l)))
      n

  -- an entry in the list of a row is of that row
  row_in : (r i n : ℕ) {e : Entry} → In e (row T r i n) → (j : ℕ) × (j < n) × (T r (pair i j) ≡ true) × (e ≡ entry r (pair i j))
  unfolding row
  row_in r i n m =
      let g = gather_in (λ (j : ℕ). asked T r (pair i j)) n m in
      let o = asked_in r (pair i g.0) g.2 in
      (g.0, g.1, o.0, o.1)

  asc_rule : (p : Places) (r n : ℕ) → Ascending (entries_at T p r n)
  unfolding entries_at row
  asc_rule Nowhere r n = tt
  asc_rule Leaf r n = asc_asked r (certificate 0)
  asc_rule Root r n = asc_asked r (certificate (n - 1))
  asc_rule LeafAndRoot r n = asc_asked r (pair 0 (n - 1))
  asc_rule (Each f b) r n = asc_spots r (λ k. certificate (f.0 + k)) (λ k m l. inl (omega arith)) _
  asc_rule Neighbours r n = asc_spots r (λ k. pair k (k + 1)) (λ k m l. inl l) _
  asc_rule (Pairs f b) r n =
      asc_gather (λ (k : ℕ). row T r (f.0 + k) (f.0 + k)) (λ k. asc_spots r (λ j. pair (f.0 + k) j) (λ i m l. inr (refl, l)) (f.0 + k))
      (λ k m l x y p q.
      let u = row_in r (f.0 + k) (f.0 + k) p in
      let v = row_in r (f.0 + m) (f.0 + m) q in
      rw (u.3, v.3) (inr (refl, inl (omega arith))))
      _

  -- all that rule r owes is of rule r, at one of its places, and broken there
  rule_in : (p : Places) (r n : ℕ) {e : Entry} → In e (entries_at T p r n) → (e.rule.0 ≡ r) × IsPlace p n e.spot × (T r e.spot ≡ true)
  unfolding entries_at IsPlace
  rule_in Nowhere r n m = absurd (Memᴰ.not-nil m)
  rule_in Leaf r n m = let o = asked_in r (certificate 0) m in rw o.1 (refl, refl, o.0)
  rule_in Root r n m = let o = asked_in r (certificate (n - 1)) m in rw o.1 (refl, refl, o.0)
  rule_in LeafAndRoot r n m = let o = asked_in r (pair 0 (n - 1)) m in rw o.1 (refl, refl, o.0)
  rule_in (Each f b) r n m =
      let g = gather_in (λ (k : ℕ). asked T r (certificate (f.0 + k))) _ m in
      let o = asked_in r (certificate (f.0 + g.0)) g.2 in
      rw o.1 (refl, (f.0 + g.0, omega arith, omega (arith, g.1), refl), o.0)
  rule_in Neighbours r n m =
      let g = gather_in (λ (k : ℕ). asked T r (pair k (k + 1))) _ m in
      let o = asked_in r (pair g.0 (g.0 + 1)) g.2 in
      rw o.1 (refl, (g.0, omega (arith, g.1), refl), o.0)
  rule_in (Pairs f b) r n m =
      let g = gather_in (λ (k : ℕ). row T r (f.0 + k) (f.0 + k)) _ m in
      let o = row_in r (f.0 + g.0) (f.0 + g.0) g.2 in
      rw o.3 (refl, (f.0 + g.0, o.0, omega arith, omega (arith, g.1), o.1, refl), o.2)

  -- all that is broken at one of the places stands there
  in_rule : (p : Places) (r n : ℕ) (s : Spot) → IsPlace p n s → T r s ≡ true → In (entry r s) (entries_at T p r n)
  unfolding entries_at row IsPlace
  in_rule Nowhere r n s h t = absurd h
  in_rule Leaf r n s h t = rw h (in_asked r _ (rw h at t))
  in_rule Root r n s h t = rw h (in_asked r _ (rw h at t))
  in_rule LeafAndRoot r n s h t = rw h (in_asked r _ (rw h at t))
  in_rule (Each f b) r n s (i, l, u, e) t =
      let q : f.0 + (i - f.0) ≡ i = omega arith in
      in_gather (λ (k : ℕ). asked T r (certificate (f.0 + k))) _ (i - f.0) (omega arith) (rw (q, e) (in_asked r _ (rw e at t)))
  in_rule Neighbours r n s (i, u, e) t =
      in_gather (λ (k : ℕ). asked T r (pair k (k + 1))) _ i (omega arith) (rw e (in_asked r _ (rw e at t)))
  in_rule (Pairs f b) r n s (i, j, l, u, d, e) t =
      let q : f.0 + (i - f.0) ≡ i = omega arith in
      in_gather (λ (k : ℕ). row T r (f.0 + k) (f.0 + k)) _ (i - f.0) (omega arith)
      (rw q (in_gather (λ (j : ℕ). asked T r (pair i j)) i j d (rw e (in_asked r _ (rw e at t)))))

  module _ (P : ℕ → Places) (n rules : ℕ) where
    pub index_in : (e : Entry) → In e (index T P n rules) → (e.rule.0 < rules) × IsPlace (P e.rule.0) n e.spot × (T e.rule.0 e.spot ≡ true)
    unfolding index
    index_in e m =
        let g = gather_in (λ (r : ℕ). entries_at T (P r) r n) _ m in
        let o = rule_in (P g.0) g.0 n g.2 in
        (omega (arith, o.0, g.1), rw o.0 o.1, rw o.0 o.2)

    pub in_index : (e : Entry) → e.rule.0 < rules → IsPlace (P e.rule.0) n e.spot → T e.rule.0 e.spot ≡ true → In e (index T P n rules)
    unfolding index
    in_index e l p b =
        in_gather (λ (r : ℕ). entries_at T (P r) r n) _ e.rule.0 (omega arith) (in_rule (P e.rule.0) e.rule.0 n e.spot p b)

    pub index_ascends : Ascending (index T P n rules)
    unfolding index
    index_ascends =
        asc_gather (λ (r : ℕ). entries_at T (P r) r n) (λ r. asc_rule (P r) r n)
        (λ k m l x y p q. inl (omega (arith, (rule_in (P k) k n p).0, (rule_in (P m) m n q).0))) _

-- ---- there is one such list

pub less_asym : (a b : Entry) → Less a b → Less b a → ⊥
less_asym a b (inl p) (inl q) = omega arith
less_asym a b (inl p) (inr q) = omega (arith, q.0)
less_asym a b (inr p) (inl q) = omega (arith, p.0)
less_asym a b (inr (e, inl p)) (inr (d, inl q)) = omega arith
less_asym a b (inr (e, inl p)) (inr (d, inr q)) = omega (arith, q.0)
less_asym a b (inr (e, inr p)) (inr (d, inl q)) = omega (arith, p.0)
less_asym a b (inr (e, inr p)) (inr (d, inr q)) = omega (arith, p.1, q.1)

same_head : (x y : Entry) (a b : List Entry) → Ascending (x ∷ a) → Ascending (y ∷ b) → In x (y ∷ b) → In y (x ∷ a) → x ≡ y
same_head x y a b p q m n =
    ⊎_elim (λ (e : x ≡ y). e)
    (λ (k : In x b). ⊎_elim (λ (e : y ≡ x). sym e) (λ (l : In y a). absurd (less_asym x y (p.0 y l) (q.0 x k))) (Memᴰ.cases_cons n))
    (Memᴰ.cases_cons m)

-- what stands in the rest of one list stands in the rest of the other, where they begin alike
rest_in : (x y : Entry) (a b : List Entry) → x ≡ y → Ascending (x ∷ a) → (e : Entry) → In e a → In e (y ∷ b) → In e b
rest_in x y a b h p e m n =
    ⊎_elim (λ (d : e ≡ y). let l : Less x x = subst (λ (z : Entry). Less x z) (d ∙ sym h) (p.0 e m) in absurd (less_asym x x l l)) (λ (k : In e b). k)
    (Memᴰ.cases_cons n)

-- two lists that ascend and have the same members are one
pub only_one : (a b : List Entry) → Ascending a → Ascending b → ((e : Entry) → In e a → In e b) → ((e : Entry) → In e b → In e a) → a ≡ b
only_one [] [] p q f g = refl
only_one [] (y ∷ b) p q f g = absurd (Memᴰ.not-nil (g y (Memᴰ.head refl)))
only_one (x ∷ a) [] p q f g = absurd (Memᴰ.not-nil (f x (Memᴰ.head refl)))
only_one (x ∷ a) (y ∷ b) p q f g =
    let h : x ≡ y = same_head x y a b p q (f x (Memᴰ.head refl)) (g y (Memᴰ.head refl)) in
    ap₂ ◌∷◌ h
    (only_one a b p.1 q.1
    (λ e m. rest_in x y a b h p e m (f e (Memᴰ.tail m)))
    (λ e m. rest_in y x b a (sym h) q e m (g e (Memᴰ.tail m))))
