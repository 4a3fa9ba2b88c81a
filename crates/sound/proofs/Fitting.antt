-- With no misplaced section the rows of every line lie in the words, and every line is numbered from 5 on. Assumes nothing.
use Prim.Native.Nat.{ℕ, ◌≤◌, zero-le}
use mathlib.Core.Path.{◌≡◌, refl}
use mathlib.Core.List.Memᴰ
use mathlib.Core.List.{List, [], ◌∷◌, Memᴰ}
use mathlib.Core.Logic.{⊎_elim}
use mathlib.Core.Bool.{Bool, true, false}
use lib.Dec.{leb, ltb}
use borrow.Author.Tests.{leb-true, le-ltb}
use Rattle.laws.specs.Lists.{all}
use Rattle.laws.proofs.Tests.{and_left, and_right, or_right}
use Rattle.table.specs.Table.{strings, offset_of}
use Rattle.table.specs.declared.Section.{Section}
use Rattle.model.specs.Sections.{attributes, rdns, names, usages, certs, entries, chain_header, policy_header}
use Rattle.sections.specs.Placed.{misplaced, chain_sections, policy_sections}
use Rattle.search.specs.declared.Line.{Line}
use Rattle.search.specs.Found.{in_words}
use Rattle.lines.specs.Tables.{chain_lines, policy_lines}

member_all : {A : Type 0} (p : A → Bool) (x : A) (xs : List A) → all p xs ≡ true → Memᴰ x xs → p x ≡ true
unfolding all
member_all p x [] h m = absurd (Memᴰ.not-nil m)
member_all p x (y ∷ xs) h m = ⊎_elim (λ e. rw e (and_left (p y) _ h)) (λ t. member_all p x xs (and_right (p y) _ h) t) (Memᴰ.cases_cons m)

-- ---- numbers
pub chain_from5 : (l : Line) → Memᴰ l chain_lines → 5 ≤ l.number
unfolding all
chain_from5 l m = leb-true 5 l.number (member_all (λ l. leb 5 l.number) l chain_lines refl m)

pub policy_from5 : (l : Line) → Memᴰ l policy_lines → 5 ≤ l.number
unfolding all
policy_from5 l m = leb-true 5 l.number (member_all (λ l. leb 5 l.number) l policy_lines refl m)

-- ---- rows
-- where no section is misplaced the rows of every line lie in the words
abbrev pub Within : ℕ → List Section → List Line → List ℕ → Type 0
Within header sections lines w = ((s : Section) → Memᴰ s sections → misplaced header w s ≡ false) → (l : Line) → Memᴰ l lines → in_words w l.block ≡ true

-- a section that lies behind the header lies in the words
in_place : (header : ℕ) (w : List ℕ) (s : Section) → misplaced header w s ≡ false → misplaced 0 w s ≡ false
unfolding misplaced
in_place header w s h = rw (le-ltb (offset_of w s) 0 zero-le) (or_right (ltb (offset_of w s) header) _ h)

pub chain_within : (w : List ℕ) → Within chain_header chain_sections chain_lines w
unfolding all in_words
chain_within w placed l m =
    let a = in_place chain_header w strings (placed strings (Memᴰ.head refl)) in
    let b = in_place chain_header w attributes (placed attributes (Memᴰ.tail (Memᴰ.head refl))) in
    let c = in_place chain_header w rdns (placed rdns (Memᴰ.tail (Memᴰ.tail (Memᴰ.head refl)))) in
    let d = in_place chain_header w names (placed names (Memᴰ.tail (Memᴰ.tail (Memᴰ.tail (Memᴰ.head refl))))) in
    let e = in_place chain_header w usages (placed usages (Memᴰ.tail (Memᴰ.tail (Memᴰ.tail (Memᴰ.tail (Memᴰ.head refl)))))) in
    let f = in_place chain_header w certs (placed certs (Memᴰ.tail (Memᴰ.tail (Memᴰ.tail (Memᴰ.tail (Memᴰ.tail (Memᴰ.head refl))))))) in
    member_all (λ l. in_words w l.block) l chain_lines (rw (a, b, c, d, e, f) refl) m

pub policy_within : (w : List ℕ) → Within policy_header policy_sections policy_lines w
unfolding all in_words
policy_within w placed l m =
    let a = in_place policy_header w strings (placed strings (Memᴰ.head refl)) in
    let b = in_place policy_header w entries (placed entries (Memᴰ.tail (Memᴰ.head refl))) in
    member_all (λ l. in_words w l.block) l policy_lines (rw (a, b) refl) m
