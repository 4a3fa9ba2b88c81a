-- The code's tables know the refusals of document 01, neither more nor less. Assumes nothing.
use Prim.Native.Nat.{ℕ, ◌<◌}
use native.Mathlib.Omega.{arith}
use native.Mathlib.Decide.{dec_lt}
use mathlib.Core.Path.{◌≡◌}
use mathlib.Core.Logic.{⊎_elim}
use mathlib.Core.List.{List}
use lib.ListN.{length}
use Rattle.table.specs.Table.{count_of}
use Rattle.model.specs.Sections.{chain_header, certs}
use Rattle.sound.specs.Limits.{most_certs}
use Rattle.sound.specs.Shared.{header_short}
use Rattle.sound.specs.ChainFault.{ChainFault, shared, many_certs}
use Rattle.sound.specs.PolicyFault.{PolicyFault, shared as shared_policy}
use Rattle.sound.proofs.Fitting.{chain_from5, chain_within, policy_from5, policy_within}
use Rattle.sound.proofs.Tables.{chain_layout, policy_layout, TableFault, size, other, section, row, Knows}
use Rattle.sound.proofs.Shared.{chain_large, large_stated, edition_stated, section_stated}
use Rattle.sound.proofs.ChainLines.{chain_lines_law, chain_tabled}
use Rattle.sound.proofs.PolicyLines.{policy_lines_law, policy_tabled}

module _ (w b : List ℕ) where
  -- only a whole header counts certificates
  many_stated : (n p : ℕ) → n ≡ 2 → p ≡ 0 → most_certs < count_of w certs → ChainFault w b n p
  many_stated n p e d h = elim (dec_lt (length w) chain_header) [ yes k ↦ shared (header_short e d k) | no k ↦ many_certs e d (omega arith) h ]

  chain_stated : (n p : ℕ) → TableFault (chain_layout w b) w b n p → ChainFault w b n p
  chain_stated n p (size e d t) = ⊎_elim (λ h. shared (large_stated (chain_layout w b) w b n p e d h)) (λ h. many_stated n p e d h) ((chain_large w b).0 t)
  chain_stated n p (other e d t) = shared (edition_stated (chain_layout w b) w b n p e d t)
  chain_stated n p (section s m e d t) = shared (section_stated (chain_layout w b) w b n p s m e d t)
  chain_stated n p (row l m e x) = chain_lines_law w b l m n p e x

  pub chain_known : Knows (ChainFault w b) (chain_layout w b) w b
  chain_known = record { from5 = chain_from5; within = chain_within w; stated = chain_stated; tabled = chain_tabled w b }

  policy_stated : (n p : ℕ) → TableFault (policy_layout w b) w b n p → PolicyFault w b n p
  policy_stated n p (size e d t) = shared_policy (large_stated (policy_layout w b) w b n p e d t)
  policy_stated n p (other e d t) = shared_policy (edition_stated (policy_layout w b) w b n p e d t)
  policy_stated n p (section s m e d t) = shared_policy (section_stated (policy_layout w b) w b n p s m e d t)
  policy_stated n p (row l m e x) = policy_lines_law w b l m n p e x

  pub policy_known : Knows (PolicyFault w b) (policy_layout w b) w b
  policy_known = record { from5 = policy_from5; within = policy_within w; stated = policy_stated; tabled = policy_tabled w b }
