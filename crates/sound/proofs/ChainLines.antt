-- The lines of the chain's tables and the cases of `ChainFault`, one by one. Written by tools/stated.py. Assumes nothing.
use Prim.Native.Nat.{ℕ, ◌<◌}
use native.Mathlib.Omega.{arith}
use mathlib.Core.Path.{◌≡◌, refl}
use mathlib.Core.Logic.{inl, inr, ⊎_elim}
use mathlib.Core.List.{List, Memᴰ}
use lib.ListN.{length, get_or}
use Rattle.table.specs.Table.{strings}
use Rattle.model.specs.Sections.{attributes, rdns, names, usages, certs}
use Rattle.search.specs.declared.Line.{Line}
use Rattle.lines.specs.Tables.{chain_lines}
use Rattle.sound.specs.Shared.{string_out}
use Rattle.sound.specs.ChainFault.{ChainFault, shared, many_certs, aki, ski, eku, bc, ku, san, nc, policies, aia, host_out, oid_out, value_out, rdn_out, dns_out, directory_out, ip_out, fingerprint_out, serial_out, outer_signature_out, inner_signature_out, issuer_uid_out, subject_uid_out, aki_key_id_out, aki_issuer_out, aki_serial_out, ski_key_id_out, issuer_out, subject_out, eku_usages_out, san_names_out, permitted_out, excluded_out, kind_over, usage_over, version_over, key_over, ca_over, has_length_over, ku_bits_over, extensions_over, extensions_denied, mark_over, host_high, value_high, dns_high, other_purpose}
use Rattle.sound.proofs.Tables.{InLine, chain_layout, TableFault, size}
use Rattle.sound.proofs.Means.{host_out_law, string_out_law, number_out, range_out, name_out_law, optional_out, part_optional_out, part_number_out, part_range_out, code_over, part_code_over, extensions_wrong_law, host_high_law, text_high, dns_high_law, purpose_other}
use Rattle.sound.proofs.Shared.{each, none, nowhere, member, line_tabled, shared_tabled, chain_large}

module _ (w b : List ℕ) where
  abbrev Says : Line → Type 0
  Says l = (n p : ℕ) → n ≡ l.number → InLine w b l p → ChainFault w b n p

  pub chain_lines_law : (l : Line) → Memᴰ l chain_lines → Says l
  chain_lines_law =
      each Says (λ n p e x. let y = (host_out_law w b p 13).0 x in host_out e y.0 y.1) (
      each Says (λ n p e x. let y = (string_out_law w b p strings 0).0 x in shared (string_out e y.0 y.1)) (
      each Says (λ n p e x. let y = (number_out w b p attributes 0).0 x in oid_out e y.0 y.1) (
      each Says (λ n p e x. let y = (number_out w b p attributes 1).0 x in value_out e y.0 y.1) (
      each Says (λ n p e x. let y = (range_out w b p rdns 0 attributes).0 x in rdn_out e y.0 y.1) (
      each Says (λ n p e x. (⊎_elim (λ y. dns_out e y.0 y.1) (⊎_elim (λ y. directory_out e y.0 y.1) (λ y. ip_out e y.0 y.1))) ((name_out_law w b p).0 x)) (
      each Says (λ n p e x. let y = (number_out w b p certs 0).0 x in fingerprint_out e y.0 y.1) (
      each Says (λ n p e x. let y = (number_out w b p certs 2).0 x in serial_out e y.0 y.1) (
      each Says (λ n p e x. let y = (number_out w b p certs 3).0 x in outer_signature_out e y.0 y.1) (
      each Says (λ n p e x. let y = (number_out w b p certs 4).0 x in inner_signature_out e y.0 y.1) (
      each Says (λ n p e x. let y = (optional_out w b p certs 13).0 x in issuer_uid_out e y.0 y.1) (
      each Says (λ n p e x. let y = (optional_out w b p certs 14).0 x in subject_uid_out e y.0 y.1) (
      each Says (λ n p e x. let y = (part_optional_out w b p 15 16).0 x in aki_key_id_out e y.0 y.1) (
      each Says (λ n p e x. let y = (part_optional_out w b p 15 17).0 x in aki_issuer_out e y.0 y.1) (
      each Says (λ n p e x. let y = (part_optional_out w b p 15 18).0 x in aki_serial_out e y.0 y.1) (
      each Says (λ n p e x. let y = (part_number_out w b p 19 20).0 x in ski_key_id_out e y.0 y.1) (
      each Says (λ n p e x. let y = (range_out w b p certs 7 rdns).0 x in issuer_out e y.0 y.1) (
      each Says (λ n p e x. let y = (range_out w b p certs 9 rdns).0 x in subject_out e y.0 y.1) (
      each Says (λ n p e x. let y = (part_range_out w b p 21 22 usages).0 x in eku_usages_out e y.0 y.1) (
      each Says (λ n p e x. let y = (part_range_out w b p 30 31 names).0 x in san_names_out e y.0 y.1) (
      each Says (λ n p e x. let y = (part_range_out w b p 33 34 names).0 x in permitted_out e y.0 y.1) (
      each Says (λ n p e x. let y = (part_range_out w b p 33 36 names).0 x in excluded_out e y.0 y.1) (
      each Says (λ n p e x. let y = (code_over w b p names 0 4).0 x in kind_over e y.0 y.1) (
      each Says (λ n p e x. let y = (code_over w b p usages 0 7).0 x in usage_over e y.0 y.1) (
      each Says (λ n p e x. let y = (code_over w b p certs 1 4294967295).0 x in version_over e y.0 y.1) (
      each Says (λ n p e x. let y = (code_over w b p certs 11 2).0 x in key_over e y.0 y.1) (
      each Says (λ n p e x. let y = (part_code_over w b p 24 25 1).0 x in ca_over e y.0 y.1) (
      each Says (λ n p e x. let y = (part_code_over w b p 24 26 1).0 x in has_length_over e y.0 y.1) (
      each Says (λ n p e x. let y = (part_code_over w b p 28 29 511).0 x in ku_bits_over e y.0 y.1) (
      each Says (λ n p e x. (⊎_elim (λ y. extensions_over e y.0 y.1) (λ y. extensions_denied y.0 y.1 e y.2 y.3)) ((extensions_wrong_law w b p).0 x)) (
      each Says (λ n p e x. let y = (code_over w b p certs 15 3).0 x in mark_over 15 (aki refl) e y.0 y.1) (
      each Says (λ n p e x. let y = (code_over w b p certs 19 3).0 x in mark_over 19 (ski refl) e y.0 y.1) (
      each Says (λ n p e x. let y = (code_over w b p certs 21 3).0 x in mark_over 21 (eku refl) e y.0 y.1) (
      each Says (λ n p e x. let y = (code_over w b p certs 24 3).0 x in mark_over 24 (bc refl) e y.0 y.1) (
      each Says (λ n p e x. let y = (code_over w b p certs 28 3).0 x in mark_over 28 (ku refl) e y.0 y.1) (
      each Says (λ n p e x. let y = (code_over w b p certs 30 3).0 x in mark_over 30 (san refl) e y.0 y.1) (
      each Says (λ n p e x. let y = (code_over w b p certs 33 3).0 x in mark_over 33 (nc refl) e y.0 y.1) (
      each Says (λ n p e x. let y = (code_over w b p certs 38 3).0 x in mark_over 38 (policies refl) e y.0 y.1) (
      each Says (λ n p e x. let y = (code_over w b p certs 39 3).0 x in mark_over 39 (aia refl) e y.0 y.1) (
      each Says (λ n p e x. let y = (host_high_law w b p 13).0 x in host_high e y.0 y.1.0 y.1.1) (
      each Says (λ n p e x. let y = (text_high w b p attributes 1).0 x in value_high e y.0 y.1) (
      each Says (λ n p e x. let y = (dns_high_law w b p).0 x in dns_high e y.0 y.1) (
      each Says (λ n p e x. let y = (purpose_other w b p 14).0 x in other_purpose e y.0 y.1) (
      none Says)))))))))))))))))))))))))))))))))))))))))))

  at_line : {n p : ℕ} (k : ℕ) → k < length chain_lines → n ≡ (get_or chain_lines k nowhere).number → InLine w b (get_or chain_lines k nowhere) p → TableFault (chain_layout w b) w b n p
  at_line = line_tabled (chain_layout w b) w b

  pub chain_tabled : (n p : ℕ) → ChainFault w b n p → TableFault (chain_layout w b) w b n p
  chain_tabled n p (shared f) = shared_tabled (chain_layout w b) w b n p (λ t. (chain_large w b).1 (inl t)) (member nowhere chain_lines 1 (omega arith)) f
  chain_tabled n p (many_certs e d k h) = size e d ((chain_large w b).1 (inr h))
  chain_tabled n p (host_out e r h) = at_line 0 (omega arith) e ((host_out_law w b p 13).1 (r, h))
  chain_tabled n p (oid_out e r h) = at_line 2 (omega arith) e ((number_out w b p attributes 0).1 (r, h))
  chain_tabled n p (value_out e r h) = at_line 3 (omega arith) e ((number_out w b p attributes 1).1 (r, h))
  chain_tabled n p (rdn_out e r h) = at_line 4 (omega arith) e ((range_out w b p rdns 0 attributes).1 (r, h))
  chain_tabled n p (dns_out e r h) = at_line 5 (omega arith) e ((name_out_law w b p).1 (inl (r, h)))
  chain_tabled n p (directory_out e r h) = at_line 5 (omega arith) e ((name_out_law w b p).1 (inr (inl (r, h))))
  chain_tabled n p (ip_out e r h) = at_line 5 (omega arith) e ((name_out_law w b p).1 (inr (inr (r, h))))
  chain_tabled n p (fingerprint_out e r h) = at_line 6 (omega arith) e ((number_out w b p certs 0).1 (r, h))
  chain_tabled n p (serial_out e r h) = at_line 7 (omega arith) e ((number_out w b p certs 2).1 (r, h))
  chain_tabled n p (outer_signature_out e r h) = at_line 8 (omega arith) e ((number_out w b p certs 3).1 (r, h))
  chain_tabled n p (inner_signature_out e r h) = at_line 9 (omega arith) e ((number_out w b p certs 4).1 (r, h))
  chain_tabled n p (issuer_uid_out e r h) = at_line 10 (omega arith) e ((optional_out w b p certs 13).1 (r, h))
  chain_tabled n p (subject_uid_out e r h) = at_line 11 (omega arith) e ((optional_out w b p certs 14).1 (r, h))
  chain_tabled n p (aki_key_id_out e r h) = at_line 12 (omega arith) e ((part_optional_out w b p 15 16).1 (r, h))
  chain_tabled n p (aki_issuer_out e r h) = at_line 13 (omega arith) e ((part_optional_out w b p 15 17).1 (r, h))
  chain_tabled n p (aki_serial_out e r h) = at_line 14 (omega arith) e ((part_optional_out w b p 15 18).1 (r, h))
  chain_tabled n p (ski_key_id_out e r h) = at_line 15 (omega arith) e ((part_number_out w b p 19 20).1 (r, h))
  chain_tabled n p (issuer_out e r h) = at_line 16 (omega arith) e ((range_out w b p certs 7 rdns).1 (r, h))
  chain_tabled n p (subject_out e r h) = at_line 17 (omega arith) e ((range_out w b p certs 9 rdns).1 (r, h))
  chain_tabled n p (eku_usages_out e r h) = at_line 18 (omega arith) e ((part_range_out w b p 21 22 usages).1 (r, h))
  chain_tabled n p (san_names_out e r h) = at_line 19 (omega arith) e ((part_range_out w b p 30 31 names).1 (r, h))
  chain_tabled n p (permitted_out e r h) = at_line 20 (omega arith) e ((part_range_out w b p 33 34 names).1 (r, h))
  chain_tabled n p (excluded_out e r h) = at_line 21 (omega arith) e ((part_range_out w b p 33 36 names).1 (r, h))
  chain_tabled n p (kind_over e r h) = at_line 22 (omega arith) e ((code_over w b p names 0 4).1 (r, h))
  chain_tabled n p (usage_over e r h) = at_line 23 (omega arith) e ((code_over w b p usages 0 7).1 (r, h))
  chain_tabled n p (version_over e r h) = at_line 24 (omega arith) e ((code_over w b p certs 1 4294967295).1 (r, h))
  chain_tabled n p (key_over e r h) = at_line 25 (omega arith) e ((code_over w b p certs 11 2).1 (r, h))
  chain_tabled n p (ca_over e r h) = at_line 26 (omega arith) e ((part_code_over w b p 24 25 1).1 (r, h))
  chain_tabled n p (has_length_over e r h) = at_line 27 (omega arith) e ((part_code_over w b p 24 26 1).1 (r, h))
  chain_tabled n p (ku_bits_over e r h) = at_line 28 (omega arith) e ((part_code_over w b p 28 29 511).1 (r, h))
  chain_tabled n p (extensions_over e r h) = at_line 29 (omega arith) e ((extensions_wrong_law w b p).1 (inl (r, h)))
  chain_tabled n p (extensions_denied m k e r h) = at_line 29 (omega arith) e ((extensions_wrong_law w b p).1 (inr (m, k, r, h)))
  chain_tabled n p (mark_over m (aki d) e r h) = at_line 30 (omega arith) e ((code_over w b p certs 15 3).1 (rw d at r, h))
  chain_tabled n p (mark_over m (ski d) e r h) = at_line 31 (omega arith) e ((code_over w b p certs 19 3).1 (rw d at r, h))
  chain_tabled n p (mark_over m (eku d) e r h) = at_line 32 (omega arith) e ((code_over w b p certs 21 3).1 (rw d at r, h))
  chain_tabled n p (mark_over m (bc d) e r h) = at_line 33 (omega arith) e ((code_over w b p certs 24 3).1 (rw d at r, h))
  chain_tabled n p (mark_over m (ku d) e r h) = at_line 34 (omega arith) e ((code_over w b p certs 28 3).1 (rw d at r, h))
  chain_tabled n p (mark_over m (san d) e r h) = at_line 35 (omega arith) e ((code_over w b p certs 30 3).1 (rw d at r, h))
  chain_tabled n p (mark_over m (nc d) e r h) = at_line 36 (omega arith) e ((code_over w b p certs 33 3).1 (rw d at r, h))
  chain_tabled n p (mark_over m (policies d) e r h) = at_line 37 (omega arith) e ((code_over w b p certs 38 3).1 (rw d at r, h))
  chain_tabled n p (mark_over m (aia d) e r h) = at_line 38 (omega arith) e ((code_over w b p certs 39 3).1 (rw d at r, h))
  chain_tabled n p (host_high e d t h) = at_line 39 (omega arith) e ((host_high_law w b p 13).1 (d, (t, h)))
  chain_tabled n p (value_high e r h) = at_line 40 (omega arith) e ((text_high w b p attributes 1).1 (r, h))
  chain_tabled n p (dns_high e r h) = at_line 41 (omega arith) e ((dns_high_law w b p).1 (r, h))
  chain_tabled n p (other_purpose e r h) = at_line 42 (omega arith) e ((purpose_other w b p 14).1 (r, h))
