-- The lines of the policy's tables and the cases of `PolicyFault`, one by one. Written by tools/stated.py. Assumes nothing.
use Prim.Native.Nat.{ℕ, zero, suc, ◌<◌}
use native.Mathlib.Omega.{arith}
use mathlib.Core.Path.{◌≡◌}
use mathlib.Core.List.{List, Memᴰ}
use lib.ListN.{length, get_or}
use Rattle.table.specs.Table.{strings}
use Rattle.model.specs.Sections.{entries}
use Rattle.search.specs.declared.Line.{Line}
use Rattle.lines.specs.Tables.{policy_lines}
use Rattle.sound.specs.Shared.{string_out}
use Rattle.sound.specs.PolicyFault.{PolicyFault, shared, entry_out, list_out, public_suffix_high, india_domain_high, anssi_domain_high}
use Rattle.sound.proofs.Tables.{InLine, policy_layout, TableFault}
use Rattle.sound.proofs.Means.{string_out_law, number_out, list_out_law, entry_high}
use Rattle.sound.proofs.Shared.{each, none, nowhere, member, line_tabled, shared_tabled}

module _ (w b : List ℕ) where
  abbrev Says : Line → Type 0
  Says l = (n p : ℕ) → n ≡ l.number → InLine w b l p → PolicyFault w b n p

  pub policy_lines_law : (l : Line) → Memᴰ l policy_lines → Says l
  policy_lines_law =
      each Says (λ n p e x. let y = (string_out_law w b p strings 0).0 x in shared (string_out e y.0 y.1)) (
      each Says (λ n p e x. let y = (number_out w b p entries 0).0 x in entry_out e y.0 y.1) (
      each Says (λ n p e x. let y = (list_out_law w b p entries 5).0 x in list_out 0 (omega arith) e y.0 y.1) (
      each Says (λ n p e x. let y = (list_out_law w b p entries 7).0 x in list_out 1 (omega arith) e y.0 y.1) (
      each Says (λ n p e x. let y = (list_out_law w b p entries 9).0 x in list_out 2 (omega arith) e y.0 y.1) (
      each Says (λ n p e x. let y = (list_out_law w b p entries 11).0 x in list_out 3 (omega arith) e y.0 y.1) (
      each Says (λ n p e x. let y = (list_out_law w b p entries 13).0 x in list_out 4 (omega arith) e y.0 y.1) (
      each Says (λ n p e x. let y = (list_out_law w b p entries 15).0 x in list_out 5 (omega arith) e y.0 y.1) (
      each Says (λ n p e x. let y = (list_out_law w b p entries 17).0 x in list_out 6 (omega arith) e y.0 y.1) (
      each Says (λ n p e x. let y = (list_out_law w b p entries 19).0 x in list_out 7 (omega arith) e y.0 y.1) (
      each Says (λ n p e x. let y = (list_out_law w b p entries 21).0 x in list_out 8 (omega arith) e y.0 y.1) (
      each Says (λ n p e x. let y = (entry_high w b 0 p).0 x in public_suffix_high e y.0 y.1) (
      each Says (λ n p e x. let y = (entry_high w b 6 p).0 x in india_domain_high e y.0 y.1) (
      each Says (λ n p e x. let y = (entry_high w b 8 p).0 x in anssi_domain_high e y.0 y.1) (
      none Says))))))))))))))

  at_line : {n p : ℕ} (k : ℕ) → k < length policy_lines → n ≡ (get_or policy_lines k nowhere).number → InLine w b (get_or policy_lines k nowhere) p → TableFault (policy_layout w b) w b n p
  at_line = line_tabled (policy_layout w b) w b

  pub policy_tabled : (n p : ℕ) → PolicyFault w b n p → TableFault (policy_layout w b) w b n p
  policy_tabled n p (shared f) = shared_tabled (policy_layout w b) w b n p (λ t. t) (member nowhere policy_lines 0 (omega arith)) f
  policy_tabled n p (entry_out e r h) = at_line 1 (omega arith) e ((number_out w b p entries 0).1 (r, h))
  policy_tabled n p (list_out zero k e r h) = at_line 2 (omega arith) e ((list_out_law w b p entries 5).1 (r, h))
  policy_tabled n p (list_out (suc zero) k e r h) = at_line 3 (omega arith) e ((list_out_law w b p entries 7).1 (r, h))
  policy_tabled n p (list_out (suc (suc zero)) k e r h) = at_line 4 (omega arith) e ((list_out_law w b p entries 9).1 (r, h))
  policy_tabled n p (list_out (suc (suc (suc zero))) k e r h) = at_line 5 (omega arith) e ((list_out_law w b p entries 11).1 (r, h))
  policy_tabled n p (list_out (suc (suc (suc (suc zero)))) k e r h) = at_line 6 (omega arith) e ((list_out_law w b p entries 13).1 (r, h))
  policy_tabled n p (list_out (suc (suc (suc (suc (suc zero))))) k e r h) = at_line 7 (omega arith) e ((list_out_law w b p entries 15).1 (r, h))
  policy_tabled n p (list_out (suc (suc (suc (suc (suc (suc zero)))))) k e r h) = at_line 8 (omega arith) e ((list_out_law w b p entries 17).1 (r, h))
  policy_tabled n p (list_out (suc (suc (suc (suc (suc (suc (suc zero))))))) k e r h) = at_line 9 (omega arith) e ((list_out_law w b p entries 19).1 (r, h))
  policy_tabled n p (list_out (suc (suc (suc (suc (suc (suc (suc (suc zero)))))))) k e r h) = at_line 10 (omega arith) e ((list_out_law w b p entries 21).1 (r, h))
  policy_tabled n p (public_suffix_high e r h) = at_line 11 (omega arith) e ((entry_high w b 0 p).1 (r, h))
  policy_tabled n p (india_domain_high e r h) = at_line 12 (omega arith) e ((entry_high w b 6 p).1 (r, h))
  policy_tabled n p (anssi_domain_high e r h) = at_line 13 (omega arith) e ((entry_high w b 8 p).1 (r, h))
  policy_tabled n p (list_out (suc (suc (suc (suc (suc (suc (suc (suc (suc k))))))))) l e r h) = absurd (omega arith)
