-- A certificate's row, group by group. Assumes nothing.
use Prim.Native.Nat.{ℕ, ◌+◌}
use native.Mathlib.Nat.{add-zero}
use mathlib.Core.Path.{◌≡◌, refl}
use mathlib.Core.List.{List, ◌++◌}
use mathlib.Core.Bool.{Bool, true, false, not, ◌&&◌, ◌||◌, and_assoc}
use lib.Dec.{leb, ltb, eqb}
use lib.ListN.{take, drop}
use Rattle.table.specs.Table.{word, count_of, strings}
use Rattle.model.specs.Sections.{rdns, names, usages, certs}
use Rattle.row_tests.specs.Wrong.{no_string, no_optional, no_range, over, there, some_part, extensions_wrong}
use Rattle.lines.specs.Tables.{cert_strings_out, cert_ranges_out, codes_over, marks_over, chain_lines}
use Rattle.quick_certs.specs.Asked.{row_fine, lines_of}
use Rattle.quick_certs.proofs.Tests.{at_most, number_right, optional_right, over_right, part_right, fine_more, fine_last, fine_then}

-- word 40
pub extensions_right : (w : List ℕ) (q : ℕ) {s : Bool} → s ≡ some_part w q → (leb (word w (q + 40)) 1 && (not (eqb (word w (q + 40)) 0) || not s)) ≡ not (extensions_wrong w q)
unfolding extensions_wrong over there
extensions_right w q {s} e = rw (at_most (word w (q + 40)) 1, ← e) (go (ltb 1 (word w (q + 40))) (eqb (word w (q + 40)) 0) s) where
  go : (o z s : Bool) → (not o && (not z || not s)) ≡ not (o || (not (not z) && s))
  go true z s = refl
  go false true s = refl
  go false false s = refl

module _ (w b : List ℕ) (q : ℕ) where
  module _ {n : ℕ} (e : n ≡ count_of w strings) where
    pub strings_row : (ltb (word w q) n && ltb (word w (q + 2)) n && ltb (word w (q + 3)) n && ltb (word w (q + 4)) n && leb (word w (q + 13)) n && leb (word w (q + 14)) n) ≡ row_fine w b (take 6 cert_strings_out) q
    strings_row =
        let number = number_right w e in
        let optional = optional_right w e in
        let first : ltb (word w q) n ≡ not (no_string w (q + 0)) = rw add-zero (number q) in
        simp and_assoc
        (fine_more w b q _ _ first
        (fine_more w b q _ _ (number (q + 2))
        (fine_more w b q _ _ (number (q + 3))
        (fine_more w b q _ _ (number (q + 4))
        (fine_more w b q _ _ (optional (q + 13))
        (fine_last w b q _ (optional (q + 14))))))))

    pub key_ids_row : ((eqb (word w (q + 15)) 0 || leb (word w (q + 16)) n) && (eqb (word w (q + 15)) 0 || leb (word w (q + 17)) n) && (eqb (word w (q + 15)) 0 || leb (word w (q + 18)) n) && (eqb (word w (q + 19)) 0 || ltb (word w (q + 20)) n)) ≡ row_fine w b (drop 6 cert_strings_out) q
    key_ids_row =
        let optional = optional_right w e in
        simp and_assoc
        (fine_more w b q _ _ (part_right w (q + 15) (no_optional w (q + 16)) (optional (q + 16)))
        (fine_more w b q _ _ (part_right w (q + 15) (no_optional w (q + 17)) (optional (q + 17)))
        (fine_more w b q _ _ (part_right w (q + 15) (no_optional w (q + 18)) (optional (q + 18)))
        (fine_last w b q _ (part_right w (q + 19) (no_string w (q + 20)) (number_right w e (q + 20)))))))

  module _ {issuer subject eku san permitted excluded : Bool} where
    pub ranges_row :
        issuer ≡ not (no_range w rdns (q + 7)) →
        subject ≡ not (no_range w rdns (q + 9)) →
        eku ≡ not (there w (q + 21) && no_range w usages (q + 22)) →
        san ≡ not (there w (q + 30) && no_range w names (q + 31)) →
        permitted ≡ not (there w (q + 33) && no_range w names (q + 34)) →
        excluded ≡ not (there w (q + 33) && no_range w names (q + 36)) →
        (issuer && subject && eku && san && permitted && excluded) ≡ row_fine w b cert_ranges_out q
    ranges_row i s u a p x =
        simp and_assoc
        (fine_more w b q _ _ i
        (fine_more w b q _ _ s
        (fine_more w b q _ _ u
        (fine_more w b q _ _ a
        (fine_more w b q _ _ p
        (fine_last w b q _ x))))))

  pub codes_row : {any : Bool} → any ≡ not (extensions_wrong w q) → (leb (word w (q + 1)) 4294967295 && leb (word w (q + 11)) 2 && (eqb (word w (q + 24)) 0 || leb (word w (q + 25)) 1) && (eqb (word w (q + 24)) 0 || leb (word w (q + 26)) 1) && (eqb (word w (q + 28)) 0 || leb (word w (q + 29)) 511) && any) ≡ row_fine w b (lines_of certs.count codes_over) q
  codes_row x =
      simp and_assoc
      (fine_more w b q _ _ (over_right w 4294967295 (q + 1))
      (fine_more w b q _ _ (over_right w 2 (q + 11))
      (fine_more w b q _ _ (part_right w (q + 24) (over w 1 (q + 25)) (over_right w 1 (q + 25)))
      (fine_more w b q _ _ (part_right w (q + 24) (over w 1 (q + 26)) (over_right w 1 (q + 26)))
      (fine_more w b q _ _ (part_right w (q + 28) (over w 511 (q + 29)) (over_right w 511 (q + 29)))
      (fine_last w b q _ x))))))

  pub marks_row : (leb (word w (q + 15)) 3 && leb (word w (q + 19)) 3 && leb (word w (q + 21)) 3 && leb (word w (q + 24)) 3 && leb (word w (q + 28)) 3 && leb (word w (q + 30)) 3 && leb (word w (q + 33)) 3 && leb (word w (q + 38)) 3 && leb (word w (q + 39)) 3) ≡ row_fine w b marks_over q
  marks_row =
      let mark = over_right w 3 in
      simp and_assoc
      (fine_more w b q _ _ (mark (q + 15))
      (fine_more w b q _ _ (mark (q + 19))
      (fine_more w b q _ _ (mark (q + 21))
      (fine_more w b q _ _ (mark (q + 24))
      (fine_more w b q _ _ (mark (q + 28))
      (fine_more w b q _ _ (mark (q + 30))
      (fine_more w b q _ _ (mark (q + 33))
      (fine_more w b q _ _ (mark (q + 38))
      (fine_last w b q _ (mark (q + 39)))))))))))

  pub cert_row : {s i r c m : Bool} → s ≡ row_fine w b (take 6 cert_strings_out) q → i ≡ row_fine w b (drop 6 cert_strings_out) q → r ≡ row_fine w b cert_ranges_out q → c ≡ row_fine w b (lines_of certs.count codes_over) q → m ≡ row_fine w b marks_over q → (s && i && r && c && m) ≡ row_fine w b (lines_of certs.count chain_lines) q
  cert_row s i r c m =
      let codes = lines_of certs.count codes_over in
      simp and_assoc
      (fine_then w b q (take 6 cert_strings_out) (drop 6 cert_strings_out ++ (cert_ranges_out ++ (codes ++ marks_over))) s
      (fine_then w b q (drop 6 cert_strings_out) (cert_ranges_out ++ (codes ++ marks_over)) i
      (fine_then w b q cert_ranges_out (codes ++ marks_over) r
      (fine_then w b q codes marks_over c m))))
