-- The rows of the tables and the header, as they are asked. Assumes nothing.
use Prim.Native.Nat.{ℕ, ◌+◌, ◌-◌, ◌<◌}
use native.Mathlib.Omega.{arith}
use native.Mathlib.Decide.{dec_lt}
use native.Mathlib.Nat.{add-zero}
use mathlib.Core.Path.{◌≡◌, refl, sym, ap, ◌∙◌}
use mathlib.Core.Logic.{inl, inr, ⊎_elim}
use mathlib.Core.List.{List}
use mathlib.Core.Bool.{Bool, false, not, ◌&&◌, and_assoc, and-true, not-not}
use lib.Dec.{leb, ltb, eqb}
use borrow.Author.Tests.{lt-ltb, le-ltb, le-leb, lt-leb, ne_eqb}
use Rattle.table.specs.Table.{word, count_of, strings}
use Rattle.model.specs.Sections.{attributes, rdns, names, usages}
use Rattle.row_tests.specs.Wrong.{no_string, no_optional, no_range, over, there, high_string, name_out}
use Rattle.row_tests.proofs.Reasons.{name_text_law, name_directory, name_unread, dns_name, dns_other}
use Rattle.lines.specs.Tables.{chain_lines}
use Rattle.quick_certs.specs.Asked.{row_fine, lines_of}
use Rattle.quick_certs.proofs.Tests.{at_most, number_right, over_right, fine_more, fine_last}

-- a string that is there, without a high byte
pub such_string : (n count : ℕ) {r high : Bool} → n < count → r ≡ high → not r ≡ (not (leb count n) && not high)
such_string n count h t = rw (lt-leb count n h, t) refl

module _ (w b : List ℕ) (q : ℕ) where
  -- ---- A
  pub attribute_row : {n : ℕ} {r : Bool} → n ≡ count_of w strings → r ≡ (not (leb n (word w (q + 1))) && not (high_string w b (word w (q + 1)))) → (ltb (word w q) n && r) ≡ row_fine w b (lines_of attributes.count chain_lines) q
  unfolding no_string
  attribute_row {n} e t =
      let first : ltb (word w q) n ≡ not (no_string w (q + 0)) = rw add-zero (number_right w e q) in
      let second : not (leb n (word w (q + 1))) ≡ not (no_string w (q + 1)) = rw e refl in
      rw t (fine_more w b q _ _ first (fine_more w b q _ _ second (fine_last w b q _ refl)))

  -- ---- G, by the kind k
  module _ {k : ℕ} (e : k ≡ word w q) where
    kind_right : leb k 4 ≡ not (over w 4 (q + 0))
    unfolding over
    kind_right = at_most k 4 ∙ rw (add-zero, e) refl

    name_row : {x z r : Bool} → x ≡ name_out w q → z ≡ (eqb (word w q) 0 && high_string w b (word w (q + 1))) → r ≡ (not x && (leb k 4 && not z)) → r ≡ row_fine w b (lines_of names.count chain_lines) q
    name_row x z t = t ∙ fine_more w b q _ _ (ap not x) (fine_more w b q _ _ kind_right (fine_last w b q _ (ap not z)))

    pub dns_row : {n : ℕ} {r : Bool} → n ≡ count_of w strings → k ≡ 0 → r ≡ (not (leb n (word w (q + 1))) && not (high_string w b (word w (q + 1)))) → r ≡ row_fine w b (lines_of names.count chain_lines) q
    unfolding no_string
    dns_row f z t = name_row (name_text_law w q e (inl z) refl) (dns_name w b q _ e z refl) (t ∙ rw (z, f) refl)

    pub directory_row : {n : ℕ} {r : Bool} → n ≡ count_of w rdns → k ≡ 1 → r ≡ ltb n (word w (q + 1) + word w (q + 2)) → not r ≡ row_fine w b (lines_of names.count chain_lines) q
    unfolding no_range
    directory_row f z t =
        let u : q + 1 + 1 ≡ q + 2 = omega arith in
        name_row (name_directory w q e z refl) (dns_other w b q _ e (λ y. omega arith)) (rw (t, z, f, u) (sym (and-true _)))

    pub ip_row : {n : ℕ} → n ≡ count_of w strings → k ≡ 2 → ltb (word w (q + 1)) n ≡ row_fine w b (lines_of names.count chain_lines) q
    ip_row f z = name_row (name_text_law w q e (inr z) refl) (dns_other w b q _ e (λ y. omega arith)) (rw (number_right w f (q + 1), z) (sym (and-true _)))

    pub other_row : (k ≡ 0 → ⊥) → (k ≡ 1 → ⊥) → (k ≡ 2 → ⊥) → leb k 4 ≡ row_fine w b (lines_of names.count chain_lines) q
    other_row l m n = name_row (name_unread w q e (⊎_elim l n) m) (dns_other w b q _ e l) (sym (and-true _))

-- ---- the header
module _ (w b : List ℕ) {host purpose : ℕ} (e : host ≡ word w 13) (f : purpose ≡ word w 14) where
  purpose_right : eqb purpose 0 ≡ not (there w 14)
  unfolding there
  purpose_right = rw f (sym (not-not _))

  header_row : {x z r : Bool} → x ≡ no_optional w 13 → z ≡ (there w 13 && high_string w b (word w 13 - 1)) → r ≡ (not x && (not z && eqb purpose 0)) → r ≡ row_fine w b (lines_of 0 chain_lines) 0
  header_row x z t = t ∙ fine_more w b 0 _ _ (ap not x) (fine_more w b 0 _ _ (ap not z) (fine_last w b 0 _ purpose_right))

  pub no_host_row : host ≡ 0 → eqb purpose 0 ≡ row_fine w b (lines_of 0 chain_lines) 0
  unfolding no_optional there
  no_host_row z = header_row {x = false} {z = false} (rw (← e, z) (sym (le-ltb (count_of w strings) 0 (omega arith)))) (rw (← e, z) refl) refl

  pub host_row : {n : ℕ} {r : Bool} → n ≡ count_of w strings → (host ≡ 0 → ⊥) → r ≡ (not (leb n (host - 1)) && not (high_string w b (host - 1))) → (r && eqb purpose 0) ≡ row_fine w b (lines_of 0 chain_lines) 0
  unfolding no_optional there
  host_row {n} g z t =
      header_row {x = leb n (host - 1)} {z = high_string w b (host - 1)}
      (rw (← e, ← g) (before_host n))
      (rw (← e, ne_eqb host 0 z) refl)
      (rw t (and_assoc (not (leb n (host - 1))) (not (high_string w b (host - 1))) (eqb purpose 0))) where
        before_host : (n : ℕ) → leb n (host - 1) ≡ ltb n host
        before_host n = elim (dec_lt n host) [
          | yes l ↦ le-leb n (host - 1) (omega arith) ∙ sym (lt-ltb n host l)
          | no m ↦ lt-leb n (host - 1) (omega arith) ∙ sym (le-ltb n host (omega arith))
        ]

-- ---- R and U
module _ (w b : List ℕ) (q : ℕ) {r : Bool} where
  pub rdn_row : {count : ℕ} → count ≡ count_of w attributes → r ≡ not (ltb count (word w q + word w (q + 1))) → r ≡ row_fine w b (lines_of rdns.count chain_lines) q
  unfolding no_range
  rdn_row e t = fine_last w b q _ (t ∙ rw (e, add-zero) refl)

  pub usage_row : r ≡ leb (word w q) 7 → r ≡ row_fine w b (lines_of usages.count chain_lines) q
  usage_row t = fine_last w b q _ (t ∙ rw add-zero (over_right w 7 q))
