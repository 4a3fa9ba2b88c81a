-- What is so of every report, over any tests T and any table P of places: each theorem is one sentence, and needs no proof to be read. Assumes nothing.
use Prim.Native.Nat.{ℕ, zero, suc, ◌+◌, ◌-◌, ◌*◌, ◌/◌, ◌≤◌, ◌<◌}
use native.Mathlib.Omega.{arith}
use native.Mathlib.Decide.{dec_lt}
use native.Mathlib.Nat.{mul-le-mul_left, mul-le-mul_right}
use mathlib.Core.Path.{◌≡◌, refl, sym, ap, ap₂, subst, ◌∙◌}
use mathlib.Core.Logic.{◌⊎◌, inl, inr, ⊎_elim, ◌↔◌}
use mathlib.Core.List.Memᴰ
use mathlib.Core.List.{List, [], ◌∷◌}
use mathlib.Core.Bool.{Bool}
use lib.ListN.{length, get_or, take, drop}
use Rattle.std.specs.Prelude.{Option, Some, None}
use Rattle.faults.specs.Report.{certificate, pair, first_word, second_word, entry, Named, words_of, write, fitting, first_of, most_count, Wrote}
use Rattle.faults.specs.Index.{full_index}
use Rattle.faults.specs.Places.{IsPlace, fewest}
use Rattle.faults.specs.Order.{In, Less, Ascending, Due, NoneFrom, Reported}
use Rattle.faults.specs.Count.{sum, places_count, single_rules, pair_rules}
use Rattle.faults.specs.declared.Spot.{Spot}
use Rattle.faults.specs.declared.Spot.TheVariants.{Nothing, Certificate, Pair}
use Rattle.faults.specs.declared.Entry.{Entry}
use Rattle.faults.specs.declared.Tally.{Tally}
use Rattle.faults.specs.declared.Places.{Places}
use Rattle.faults.proofs.Index.{index_in, in_index, index_ascends, less_asym, only_one}
use Rattle.faults.proofs.Laws.{length_write, write_past, write_entry, full_short, full_long}
use Rattle.faults.proofs.Lengths.{pairs_up, index_length, table_most}

-- ---- writing

-- The buffer keeps its length.
pub keeps_length : (es : List Entry) (b : List ℕ) → length (write es b) ≡ length b
keeps_length = length_write

-- Entry k is at the words 3k to 3k + 2, if it is one of those that fit.
pub entry_at : (es : List Entry) (b : List ℕ) (k : ℕ) (d : Entry) → k < fitting es b → take 3 (drop (3 * k) (write es b)) ≡ words_of (get_or es k d)
entry_at = write_entry

-- Behind the entries that fit, every word is as it was: none is cut.
pub rest_stays : (es : List Entry) (b : List ℕ) → drop (3 * fitting es b) (write es b) ≡ drop (3 * fitting es b) b
rest_stays es b = write_past es b (3 * fitting es b) refl

spot_tell : (s u : Spot) → Named s → Named u → first_word s ≡ first_word u → second_word s ≡ second_word u → s ≡ u
spot_tell Nothing Nothing m k p q = refl
spot_tell Nothing (Certificate i) m k p q = absurd (omega arith)
spot_tell Nothing (Pair i j) m k p q = absurd (omega arith)
spot_tell (Certificate i) Nothing m k p q = absurd (omega arith)
spot_tell (Certificate i) (Certificate h) m k p q = ap (λ (x : ℕ). certificate x) p
spot_tell (Certificate i) (Pair h j) m k p q = absurd (omega arith)
spot_tell (Pair i j) Nothing m k p q = absurd (omega arith)
spot_tell (Pair i j) (Certificate h) m k p q = absurd (omega arith)
spot_tell (Pair i j) (Pair h l) m k p q = ap₂ (λ (x y : ℕ). pair x y) p q

-- The words of an entry tell which it is, as long as none of its positions is the word for none.
pub words_tell : (a b : Entry) → Named a.spot → Named b.spot → words_of a ≡ words_of b → a ≡ b
words_tell a b m k e =
    let r : a.rule.0 ≡ b.rule.0 = cc in
    let s : a.spot ≡ b.spot = spot_tell a.spot b.spot m k (cc) (cc) in
    ap₂ (λ (x : ℕ) (y : Spot). entry x y) r s

-- A count is exact as long as it can be.
pub total_exact : {es : List Entry} {old new : List ℕ} {t : Tally} → Wrote es old new t → length es ≤ most_count → t.total ≡ length es
total_exact w h = omega (arith, w.total_is)

same_parts : {a a' b b' : ℕ} {f f' : Option Entry} → a ≡ a' → b ≡ b' → f ≡ f' → ◌≡◌ {A = Tally} (record { total = a; written = b; first = f }) (record { total = a'; written = b'; first = f' })
same_parts p q r = rw (p, q, r) refl

-- Two answers of writers of the same entries are equal, and so are the words that they leave.
pub one_outcome : {es : List Entry} {old new new' : List ℕ} {t t' : Tally} → Wrote es old new t → Wrote es old new' t' → (new ≡ new') × (t ≡ t')
one_outcome w v = (
  w.buffer ∙ sym v.buffer,
  same_parts (w.total_is ∙ sym v.total_is) (w.written_is ∙ sym v.written_is) (w.first_is ∙ sym v.first_is),
)

-- ---- order

-- In an ascending list no entry stands twice.
pub stands_once : (l : List Entry) (d : Entry) → Ascending l → (k m : ℕ) → k < m → m < length l → get_or l k d ≡ get_or l m d → ⊥
stands_once [] d a k m h g e = omega arith
stands_once (x ∷ l) d a k zero h g e = omega arith
stands_once (x ∷ l) d a zero (suc m) h g e = let s : Less x x = subst (Less x) (sym e) (a.0 (get_or l m d) (at_in l m (omega arith))) in less_asym x x s s where
  at_in : (l : List Entry) (m : ℕ) → m < length l → In (get_or l m d) l
  at_in [] m g = absurd (omega arith)
  at_in (x ∷ l) zero g = Memᴰ.head refl
  at_in (x ∷ l) (suc m) g = Memᴰ.tail (at_in l m (omega arith))
stands_once (x ∷ l) d a (suc k) (suc m) h g e = stands_once l d a.1 k m (omega arith) (omega arith) e

-- The first entry of an ascending list goes before all others.
pub head_least : (l : List Entry) → Ascending l → (f : Entry) → first_of l ≡ Some f → In f l × ((e : Entry) → In e l → (e ≡ f) ⊎ Less f e)
head_least [] a f h = absurd (let z : ◌≡◌ {A = ℕ} 0 1 = cc in omega arith)
head_least (x ∷ l) a f h =
    let q : x ≡ f = cc in
    rw (← q) (Memᴰ.head refl, λ e m. ⊎_elim (λ (d : e ≡ x). inl d) (λ (k : In e l). inr (a.0 e k)) (Memᴰ.cases_cons m))

-- A list without a first entry is empty.
pub no_head : (l : List Entry) → first_of l ≡ None → (e : Entry) → In e l → ⊥
no_head [] h e m = Memᴰ.not-nil m
no_head (x ∷ l) h e m = let z : ◌≡◌ {A = ℕ} 0 1 = cc in omega arith

pub empty_head : (l : List Entry) → ((e : Entry) → In e l → ⊥) → first_of l ≡ None
empty_head [] h = refl
empty_head (x ∷ l) h = absurd (h x (Memᴰ.head refl))

-- ---- the index of a chain

module _ (short : ℕ) (T : ℕ → Spot → Bool) (P : ℕ → Places) (rules n : ℕ) where
  -- the whole index, and what is due
  abbrev Whole : List Entry
  Whole = full_index short T P rules n

  abbrev DueHere : Entry → Type 0
  DueHere = Due short T P n

  -- Only what is due stands in the index.
  pub sound : (e : Entry) → In e Whole → DueHere e
  sound e m = elim (dec_lt n fewest) [
    | yes h ↦ inl (record { few = h; is = Memᴰ.eq_of_singleton (rw (full_short short T P rules n h) at m) })
    | no h ↦ let g : fewest ≤ n = omega arith in let o = index_in T P n rules e (rw (full_long short T P rules n g) at m) in inr (record { enough = g; place = o.1; broken = o.2 })
  ]

  -- The index ascends by rule, i and j.
  pub ascends : Ascending Whole
  ascends = elim (dec_lt n fewest) [
    | yes h ↦ rw (full_short short T P rules n h) (λ y m. absurd (Memᴰ.not-nil m), tt)
    | no h ↦ let g : fewest ≤ n = omega arith in rw (full_long short T P rules n g) (index_ascends T P n rules)
  ]

  -- Of too few certificates there is one entry.
  pub short_length : n < fewest → length Whole ≡ 1
  short_length h = ap length (full_short short T P rules n h)

  -- There are no more entries than places.
  pub places_bound : fewest ≤ n → length Whole ≤ sum (λ r. places_count (P r) n) rules
  places_bound h = rw (full_long short T P rules n h) (index_length T P n rules)

  -- With at most k rules that ask each certificate at most once, and at most one that asks all pairs, there are at most kn + n(n - 1)/2 entries.
  pub bound : (k : ℕ) → 1 ≤ k → 1 ≤ n → single_rules P rules ≤ k → pair_rules P rules ≤ 1 → length Whole ≤ k * n + n * (n - 1) / 2
  bound k o l s q =
      let a : single_rules P rules * n ≤ k * n = mul-le-mul_right n s in
      let b : pair_rules P rules * (n * (n - 1) / 2) ≤ 1 * (n * (n - 1) / 2) = mul-le-mul_right (n * (n - 1) / 2) q in
      let d : 1 * n ≤ k * n = mul-le-mul_right n o in
      elim (dec_lt n fewest) [
        | yes h ↦ omega (arith, short_length h)
        | no h ↦ omega (arith, places_bound (omega arith), table_most P n rules l)
      ]

  -- Of at most `most` certificates there are at most as many entries as that is of `most`.
  pub bound_most : (k most : ℕ) → 1 ≤ k → 1 ≤ most → n ≤ most → single_rules P rules ≤ k → pair_rules P rules ≤ 1 → length Whole ≤ k * most + most * (most - 1) / 2
  bound_most k most o l u s q =
      let a : k * n ≤ k * most = mul-le-mul_left k u in
      let d : 1 * most ≤ k * most = mul-le-mul_right most o in
      elim (dec_lt n 1) [
        | yes h ↦ omega (arith, short_length (omega arith))
        | no h ↦ omega (arith, bound k o (omega arith) s q, pairs_up n most u)
      ]

  -- ---- where the table has no rule from `rules` on
  module _ (no_more : NoneFrom P rules) where
    -- All that is due stands in the index.
    pub complete : (e : Entry) → DueHere e → In e Whole
    unfolding IsPlace
    complete e (inl d) = rw (full_short short T P rules n d.few, d.is) (Memᴰ.head refl)
    complete e (inr d) = rw (full_long short T P rules n d.enough) (in_index T P n rules e known d.place d.broken) where
      known : e.rule.0 < rules
      known = elim (dec_lt e.rule.0 rules) [ yes h ↦ h | no h ↦ absurd (subst (λ (p : Places). IsPlace p n e.spot) (no_more e.rule.0 (omega arith)) d.place) ]

    -- An entry stands in the index exactly when it is due.
    pub exactly : (e : Entry) → In e Whole ↔ DueHere e
    exactly e = (sound e, complete e)

    -- A list that ascends and holds exactly what is due is the index.
    pub only : (l : List Entry) → Ascending l → ((e : Entry) → In e l ↔ DueHere e) → l ≡ Whole
    only l a h = only_one l Whole a ascends (λ e m. complete e ((h e).0 m)) (λ e m. (h e).1 (sound e m))

    -- Whoever writes the index writes the whole report.
    pub reported : {old new : List ℕ} {t : Tally} → Wrote Whole old new t → Reported short T P n old new t
    reported w = record { entries = Whole; ascending = ascends; exactly = exactly; wrote = w }

    -- The entries of a whole report are the index, so all that is said of the index is said of them.
    pub reported_is : {old new : List ℕ} {t : Tally} (p : Reported short T P n old new t) → p.entries ≡ Whole
    reported_is p = only p.entries p.ascending p.exactly

-- ---- a whole report
module _ (short : ℕ) (T : ℕ → Spot → Bool) (P : ℕ → Places) (n : ℕ) {old new : List ℕ} {t : Tally} (p : Reported short T P n old new t) where
  -- The first entry that is handed back is due, and goes before all others that are.
  pub first_least : (f : Entry) → t.first ≡ Some f → Due short T P n f × ((e : Entry) → Due short T P n e → (e ≡ f) ⊎ Less f e)
  first_least f h =
      let (m, g) = head_least p.entries p.ascending f (sym p.wrote.first_is ∙ h) in
      ((p.exactly f).0 m, λ e d. g e ((p.exactly e).1 d))

  -- No first entry is handed back exactly if none is due.
  pub first_clear : (t.first ≡ None) ↔ ((e : Entry) → Due short T P n e → ⊥)
  first_clear = (
    λ h e d. no_head p.entries (sym p.wrote.first_is ∙ h) e ((p.exactly e).1 d),
    λ h. p.wrote.first_is ∙ empty_head p.entries (λ e m. h e ((p.exactly e).0 m)),
  )

  -- The total that is handed back is how many entries there are, and at most `most` certificates have few.
  pub total_most : (rules k most : ℕ) → NoneFrom P rules → 1 ≤ k → 1 ≤ most → n ≤ most → single_rules P rules ≤ k → pair_rules P rules ≤ 1
      → k * most + most * (most - 1) / 2 ≤ most_count → (t.total ≡ length p.entries) × (t.total ≤ k * most + most * (most - 1) / 2)
  total_most rules k most z o l u s q c =
      let b = bound_most short T P rules n k most o l u s q in
      let m : length p.entries ≤ k * most + most * (most - 1) / 2 = rw (reported_is short T P rules n z p) b in
      let e = total_exact p.wrote (omega arith) in
      (e, omega (arith, e))

  -- Two whole reports of the same rules are equal, word for word, and so is what is handed back.
  pub one_report : {new' : List ℕ} {t' : Tally} → Reported short T P n old new' t' → (new ≡ new') × (t ≡ t')
  one_report q =
      let e : p.entries ≡ q.entries = only_one p.entries q.entries p.ascending q.ascending (λ e m. (q.exactly e).1 ((p.exactly e).0 m)) (λ e m. (p.exactly e).1 ((q.exactly e).0 m)) in
      one_outcome (rw e at p.wrote) q.wrote
