-- What the proofs on both bundles' tables share: lists of lines, and the refusals of either bundle. Assumes nothing.
use Prim.Native.Nat.{ℕ, zero, suc, ◌+◌, ◌*◌, ◌<◌}
use native.Mathlib.Omega.{arith}
use mathlib.Core.Path.{◌≡◌, refl, ap}
use mathlib.Core.Logic.{◌⊎◌, inl, inr, ⊎_elim, ◌↔◌}
use mathlib.Core.List.Memᴰ
use mathlib.Core.List.{List, [], ◌∷◌, Memᴰ}
use mathlib.Core.Bool.{true, not}
use lib.Dec.{eqb, ltb}
use lib.ListN.{length, get_or}
use borrow.Author.Tests.{ltb-true, lt-ltb, eqb-false, ne_eqb, not-true}
use Rattle.laws.proofs.Tests.{or_means}
use Rattle.table.specs.Table.{word, count_of, offset_of, strings}
use Rattle.table.specs.declared.Section.{Section}
use Rattle.model.specs.Sections.{chain_header, certs}
use Rattle.sections.specs.Placed.{misplaced}
use Rattle.row_tests.specs.declared.Test.TheVariants.{StringOut, NotZero}
use Rattle.search.specs.declared.Block.TheVariants.{Header, All}
use Rattle.search.specs.declared.Line.{Line}
use Rattle.lines.specs.Tables.{line}
use Rattle.sound.specs.Limits.{most_words, most_bytes, most_certs, edition, too_large}
use Rattle.sound.specs.Shared.{SharedFault, header_short, many_words, many_bytes, other_edition, begins_early, ends_late, string_out}
use Rattle.sound.proofs.Tables.{InLine, Layout, chain_layout, TableFault, size, other, section, row}
use Rattle.sound.proofs.Means.{string_out_law}

-- ---- what holds of each element of a list, one by one
module _ {A : Type 0} (P : A → Type 0) where
  pub none : (x : A) → Memᴰ x [] → P x
  none x m = absurd (Memᴰ.not-nil m)

  pub each : {y : A} {xs : List A} → P y → ((x : A) → Memᴰ x xs → P x) → (x : A) → Memᴰ x (y ∷ xs) → P x
  each a f x m = ⊎_elim (λ e. rw e a) (λ t. f x t) (Memᴰ.cases_cons m)

-- ---- a line by its number in the table
-- a line that stands for what lies past the end, and is never asked
abbrev pub nowhere : Line
nowhere = line 8 Header 14 NotZero

pub member : {A : Type 0} (d : A) (xs : List A) (k : ℕ) → k < length xs → Memᴰ (get_or xs k d) xs
member d [] k h = absurd (omega arith)
member d (x ∷ xs) zero h = Memᴰ.head refl
member d (x ∷ xs) (suc k) h = Memᴰ.tail (member d xs k (omega arith))

pub line_tabled : (y : Layout) (w b : List ℕ) {n p : ℕ} (k : ℕ) → k < length y.lines → n ≡ (get_or y.lines k nowhere).number → InLine w b (get_or y.lines k nowhere) p → TableFault y w b n p
line_tabled y w b k h e x = row (get_or y.lines k nowhere) (member nowhere y.lines k h) e x

-- ---- refusals 2 to 4
below_means : (a b : ℕ) → (ltb a b ≡ true) ↔ (a < b)
below_means a b = (ltb-true a b, lt-ltb a b)

too_large_means : (header : ℕ) (w b : List ℕ) → (too_large header w b ≡ true) ↔ (((length w < header) ⊎ (most_words < length w)) ⊎ (most_bytes < length b))
unfolding too_large
too_large_means header w b = or_means (or_means (below_means (length w) header) (below_means most_words (length w))) (below_means most_bytes (length b))

-- a chain bundle is too large as either bundle is, or has too many certificates
pub chain_large : (w b : List ℕ) → ((chain_layout w b).large ≡ true) ↔ ((too_large chain_header w b ≡ true) ⊎ (most_certs < count_of w certs))
chain_large w b = or_means (λ h. h, λ h. h) (below_means most_certs (count_of w certs))

misplaced_means : (header : ℕ) (w : List ℕ) (s : Section) → (misplaced header w s ≡ true) ↔ ((offset_of w s < header) ⊎ (length w < offset_of w s + s.size * count_of w s))
unfolding misplaced
misplaced_means header w s = or_means (below_means (offset_of w s) header) (below_means (length w) (offset_of w s + s.size * count_of w s))

module _ (y : Layout) (w b : List ℕ) (n p : ℕ) where
  pub large_stated : n ≡ 2 → p ≡ 0 → too_large y.header w b ≡ true → SharedFault y.header y.sections w b n p
  large_stated e d t = ⊎_elim (⊎_elim (λ h. header_short e d h) (λ h. many_words e d h)) (λ h. many_bytes e d h) ((too_large_means y.header w b).0 t)

  pub edition_stated : n ≡ 3 → p ≡ 0 → not (eqb (word w 0) edition) ≡ true → SharedFault y.header y.sections w b n p
  edition_stated e d t = other_edition e d (eqb-false (word w 0) edition (not-true _ t))

  pub section_stated : (s : Section) → Memᴰ s y.sections → n ≡ 4 → p ≡ s.count → misplaced y.header w s ≡ true → SharedFault y.header y.sections w b n p
  section_stated s m e d t = ⊎_elim (λ h. begins_early s m e d h) (λ h. ends_late s m e d h) ((misplaced_means y.header w s).0 t)

  pub shared_tabled : (too_large y.header w b ≡ true → y.large ≡ true) → Memᴰ (line 5 (All strings) 0 StringOut) y.lines → SharedFault y.header y.sections w b n p → TableFault y w b n p
  shared_tabled big m (header_short e d h) = size e d (big ((too_large_means y.header w b).1 (inl (inl h))))
  shared_tabled big m (many_words e d h) = size e d (big ((too_large_means y.header w b).1 (inl (inr h))))
  shared_tabled big m (many_bytes e d h) = size e d (big ((too_large_means y.header w b).1 (inr h)))
  shared_tabled big m (other_edition e d h) = other e d (ap not (ne_eqb (word w 0) edition h))
  shared_tabled big m (begins_early s k e d h) = section s k e d ((misplaced_means y.header w s).1 (inl h))
  shared_tabled big m (ends_late s k e d h) = section s k e d ((misplaced_means y.header w s).1 (inr h))
  shared_tabled big m (string_out e r h) = row (line 5 (All strings) 0 StringOut) m e ((string_out_law w b p strings 0).1 (r, h))
