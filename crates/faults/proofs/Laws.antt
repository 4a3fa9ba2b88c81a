-- The laws of writing entries into lent words, and of a loop of writers. They hold of every list of entries and every family of them. Assumes nothing.
use Prim.Native.Nat.{ℕ, zero, suc, ◌+◌, ◌-◌, ◌*◌, ◌≤◌, ◌<◌}
use native.Mathlib.Omega.{arith}
use native.Mathlib.Nat.{zero-min}
use native.Mathlib.Numerals.{add-one}
use mathlib.Core.Path.{◌≡◌, refl, sym, ap, subst, ◌∙◌}
use mathlib.Core.List.{List, [], ◌∷◌, ◌++◌, append-nil}
use mathlib.Core.Bool.{Bool, true, false}
use lib.ListN.{length, get_or, take, drop, set, length-append, length-drop}
use lib.Seq.{drop-length}
use borrow.Author.Tests.{ne_eqb, lt-ltb, le-ltb}
use borrow.Rule.Slice.PartMut.{put_mid, Post-is}
use Rattle.std.specs.Prelude.{Option, Some, None}
use Rattle.std.specs.Option.{option_or}
use Rattle.laws.proofs.Parts.{rest}
use Rattle.faults.specs.Report.{certificate, one, write, words_of, fitting, first_of, most_count, counted, Wrote, none_yet, joined}
use Rattle.faults.specs.Index.{gather, asked, row, index, full_index}
use Rattle.faults.specs.Places.{fewest, short_entry, when}
use Rattle.faults.specs.declared.Spot.{Spot}
use Rattle.faults.specs.declared.Entry.{Entry}
use Rattle.faults.specs.declared.Places.{Places}
use Rattle.faults.specs.declared.Tally.{Tally}

-- ---- one buffer

-- no word is added or lost
pub length_write : (es : List Entry) (b : List ℕ) → length (write es b) ≡ length b
unfolding write
length_write [] b = refl
length_write (e ∷ es) [] = refl
length_write (e ∷ es) (x ∷ []) = refl
length_write (e ∷ es) (x ∷ y ∷ []) = refl
length_write (e ∷ es) (x ∷ y ∷ z ∷ b) = omega (arith, length_write es b)

-- where no whole entry fits, nothing is written
pub write_short : (es : List Entry) (b : List ℕ) → length b < 3 → write es b ≡ b
unfolding write
write_short [] b h = refl
write_short (e ∷ es) [] h = refl
write_short (e ∷ es) (x ∷ []) h = refl
write_short (e ∷ es) (x ∷ y ∷ []) h = refl
write_short (e ∷ es) (x ∷ y ∷ z ∷ b) h = absurd (omega arith)

-- entry k, where it fits, is the three words from 3 * k on
pub write_entry : (es : List Entry) (b : List ℕ) (k : ℕ) (d : Entry) → k < fitting es b → take 3 (drop (3 * k) (write es b)) ≡ words_of (get_or es k d)
unfolding write
write_entry [] b k d h = absurd (omega arith)
write_entry (e ∷ es) [] k d h = absurd (omega arith)
write_entry (e ∷ es) (x ∷ []) k d h = absurd (omega arith)
write_entry (e ∷ es) (x ∷ y ∷ []) k d h = absurd (omega arith)
write_entry (e ∷ es) (x ∷ y ∷ z ∷ b) zero d h = refl
write_entry (e ∷ es) (x ∷ y ∷ z ∷ b) (suc k) d h =
    let n : 3 * suc k ≡ suc (suc (suc (3 * k))) = omega arith in
    rw n (write_entry es b k d (omega arith))

-- past the entries that fit, each word is as it was
pub write_past : (es : List Entry) (b : List ℕ) (at : ℕ) → at ≡ 3 * fitting es b → drop at (write es b) ≡ drop at b
unfolding write
write_past [] b at h = refl
write_past (e ∷ es) [] at h = refl
write_past (e ∷ es) (x ∷ []) at h = refl
write_past (e ∷ es) (x ∷ y ∷ []) at h = refl
write_past (e ∷ es) (x ∷ y ∷ z ∷ b) at h =
    let n : ℕ = 3 * fitting es b in
    let k : at ≡ suc (suc (suc n)) = omega arith in
    rw k (write_past es b n refl)

-- to write a and then b is to write b into what a left free
pub write_append : (a b : List Entry) (l : List ℕ) (at : ℕ) → at ≡ 3 * fitting a l → take at (write a l) ++ write b (drop at (write a l)) ≡ write (a ++ b) l
unfolding write
write_append [] b l at h = let k : at ≡ 0 = omega arith in rw k
write_append (e ∷ es) b [] at h = let k : at ≡ 0 = omega arith in rw k (write_short b [] (omega arith))
write_append (e ∷ es) b (x ∷ []) at h = let k : at ≡ 0 = omega arith in rw k (write_short b (x ∷ []) (omega arith))
write_append (e ∷ es) b (x ∷ y ∷ []) at h = let k : at ≡ 0 = omega arith in rw k (write_short b (x ∷ y ∷ []) (omega arith))
write_append (e ∷ es) b (x ∷ y ∷ z ∷ l) at h =
    let n : ℕ = 3 * fitting es l in
    let k : at ≡ suc (suc (suc n)) = omega arith in
    rw k (ap (λ (r : List ℕ). words_of e ++ r) (write_append es b l n refl))

-- ---- the writers of words

pub wrote_none : (l : List ℕ) → Wrote [] l l none_yet
unfolding write
wrote_none l = record { buffer = refl; total_is = refl; written_is = omega arith; first_is = refl }

pub put_none : (e : Entry) (l : List ℕ) {t : Bool} → t ≡ false → Wrote (one t e) l l none_yet
unfolding one
put_none e l h = rw h (wrote_none l)

pub put_one : (e : Entry) {l m : List ℕ} {t : Bool} {y : Tally} → t ≡ true → Wrote (e ∷ []) l m y → Wrote (one t e) l m y
unfolding one
put_one e h w = rw h w

pub put_cut : (e : Entry) (l : List ℕ) → length l < 3 → Wrote (e ∷ []) l l (record { total = 1; written = 0; first = Some e })
put_cut e l h = record { buffer = sym (write_short (e ∷ []) l h); total_is = refl; written_is = omega arith; first_is = refl }

pub put_fits : (e : Entry) (l : List ℕ) {i j : ℕ} → 3 ≤ length l → e.rule.0 ∷ i ∷ j ∷ [] ≡ words_of e
    → Wrote (e ∷ []) l (set (set (set l 0 e.rule.0) 1 i) 2 j) (record { total = 1; written = 1; first = Some e })
unfolding write
put_fits e [] h w = absurd (omega arith)
put_fits e (x ∷ []) h w = absurd (omega arith)
put_fits e (x ∷ y ∷ []) h w = absurd (omega arith)
put_fits e (x ∷ y ∷ z ∷ l) h w = record { buffer = ap (λ (r : List ℕ). r ++ l) w; total_is = refl; written_is = omega arith; first_is = refl }

-- ---- writers, one after the other

first_append : (a b : List Entry) → option_or (first_of a) (first_of b) ≡ first_of (a ++ b)
first_append [] b = refl
first_append (e ∷ a) b = refl

-- `&mut mid[at..]`: what is lent, and the whole once it is back
abbrev pub lent : ℕ → List ℕ → List ℕ
lent at mid = take (length mid - at) (drop at mid)

abbrev pub back : ℕ → List ℕ → List ℕ → List ℕ
back at mid tail = put_mid at (length mid - at) mid tail

back_is : (at : ℕ) (mid tail : List ℕ) → at ≤ length mid → back at mid tail ≡ take at mid ++ tail
back_is at mid tail h = rw (Post-is at (length mid) mid h, drop-length, append-nil)

-- a was written, and then b into what was left free
pub wrote_then : {a b : List Entry} {old mid tail : List ℕ} {t u : Tally} → length old ≤ most_count
    → Wrote a old mid t → Wrote b (lent (3 * t.written) mid) tail u → Wrote (a ++ b) old (back (3 * t.written) mid tail) (joined t u)
wrote_then {a} {b} {old} {mid} {tail} {t} {u} h p q =
    let at : ℕ = 3 * t.written in
    let k : at ≡ 3 * fitting a old = omega (arith, p.written_is) in
    let m : length mid ≡ length old = ap length p.buffer ∙ length_write a old in
    let e : lent at mid ≡ drop at mid = rest at mid in
    let d : length (lent at mid) ≡ length mid - at = ap length e ∙ length-drop at mid in
    let s : length (a ++ b) ≡ length a + length b = length-append a b in
    record {
      buffer = back_is at mid tail (omega (arith, p.written_is)) ∙ rw (q.buffer, e, p.buffer) (write_append a b old at k);
      total_is = omega (arith, p.total_is, q.total_is);
      written_is = omega (arith, p.written_is, q.written_is);
      first_is = rw (p.first_is, q.first_is) (first_append a b);
    }

-- a writer without entries adds nothing to what was handed back before
no_entries : (es : List Entry) → counted (length es) ≡ 0 → es ≡ []
no_entries [] h = refl
no_entries (e ∷ es) h = absurd (omega (arith, h))

none_behind : (a : Option Entry) → option_or a None ≡ a
none_behind None = refl
none_behind (Some e) = refl

joined_none : {es : List Entry} {old new : List ℕ} (t : Tally) {u : Tally} → t.total ≤ most_count → t.written ≤ most_count → Wrote es old new u → u.total ≡ 0 → joined t u ≡ t
joined_none {es} {old} t {u} h k q z =
    let n : es ≡ [] = no_entries es (sym q.total_is ∙ z) in
    let w : u.written ≡ 0 = q.written_is ∙ rw n (zero-min _) in
    let a : counted (t.total + u.total) ≡ t.total = omega (arith, h, z) in
    let b : counted (t.written + u.written) ≡ t.written = omega (arith, k, w) in
    let c : option_or t.first u.first ≡ t.first = rw (q.first_is, n) (none_behind t.first) in
    rw (a, b, c) refl

-- ---- a loop of writers: f 0, f 1, ..

-- the first k of the writers have written. `same` and `room` follow from `wrote`, and stand here for `omega` to read
pub record SoFar (f : ℕ → List Entry) (k : ℕ) (old new : List ℕ) (t : Tally) : Type 0 where
  pub fits : length old ≤ most_count
  pub same : length new ≡ length old
  pub room : 3 * t.written ≤ length new
  pub wrote : Wrote (gather f k) old new t

module _ (f : ℕ → List Entry) where
  gather_none : (k : ℕ) → k ≡ 0 → gather f k ≡ []
  unfolding gather
  gather_none k e = rw e

  gather_more : (k m : ℕ) → m ≡ k + 1 → gather f m ≡ gather f k ++ f k
  unfolding gather
  gather_more k m e = rw (e, add-one)

  -- before the first turn
  pub so_far_none : (l : List ℕ) (k : ℕ) → length l ≤ most_count → k ≡ 0 → SoFar f k l l none_yet
  so_far_none l k h e = record { fits = h; same = refl; room = omega arith; wrote = rw (gather_none k e) (wrote_none l) }

  -- a turn: what it wrote, es, is f k
  pub so_far_more : {k m : ℕ} {es : List Entry} {old mid tail : List ℕ} {t u v : Tally} → m ≡ k + 1
      → SoFar f k old mid t → Wrote es (lent (3 * t.written) mid) tail u → es ≡ f k → v ≡ joined t u → SoFar f m old (back (3 * t.written) mid tail) v
  so_far_more {k} {m} {es} {old} {mid} {tail} {t} {u} {v} e p q s j =
      let r : Wrote (gather f m) old (back (3 * t.written) mid tail) v = rw (gather_more k m e, ← s, j) (wrote_then p.fits p.wrote q) in
      let n : length (back (3 * t.written) mid tail) ≡ length old = ap length r.buffer ∙ length_write (gather f m) old in
      record { fits = p.fits; same = n; room = omega (arith, r.written_is); wrote = r }

  -- a turn that wrote nothing
  pub so_far_same : {k m : ℕ} {es : List Entry} {old mid tail : List ℕ} {t u : Tally} → m ≡ k + 1
      → SoFar f k old mid t → Wrote es (lent (3 * t.written) mid) tail u → es ≡ f k → u.total ≡ 0 → SoFar f m old (back (3 * t.written) mid tail) t
  so_far_same {k} {m} {es} {old} {mid} {tail} {t} e p q s z =
      subst (SoFar f m old (back (3 * t.written) mid tail)) (joined_none t (omega (arith, p.wrote.total_is)) (omega (arith, p.room, p.same, p.fits)) q z) (so_far_more e p q s refl)

  -- after the last
  pub so_far_done : {k n : ℕ} {old new : List ℕ} {t : Tally} → SoFar f k old new t → n ≡ k → Wrote (gather f n) old new t
  so_far_done p e = rw e p.wrote

-- turn i - a of a loop that starts at a is the one at i
pub turn_is : (f : ℕ → List Entry) {a i : ℕ} → a ≤ i → f i ≡ f (a + (i - a))
turn_is f {a} {i} h = let q : a + (i - a) ≡ i = omega arith in rw q refl

-- ---- the whole index: of too few certificates, and of enough
module _ (short : ℕ) (T : ℕ → Spot → Bool) (P : ℕ → Places) (rules n : ℕ) where
  pub full_short : n < fewest → full_index short T P rules n ≡ short_entry short ∷ []
  unfolding full_index
  full_short h = rw (lt-ltb n fewest h)

  pub full_long : fewest ≤ n → full_index short T P rules n ≡ index T P n rules
  unfolding full_index
  full_long h = rw (le-ltb n fewest h)

-- ---- a table by number: what stands past a line that is not the number's
pub other : {A : Type 0} {r k : ℕ} {x : A} (a b : A) → (r ≡ k → ⊥) → x ≡ b → x ≡ when r k a b
unfolding when
other {r = r} {k = k} a b h e = rw (ne_eqb r k h) e
