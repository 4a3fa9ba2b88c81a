-- Rules 9 to 12 said with "for every" and "for some", as upstream says them; that the tests mean this is proved. Assumes nothing.
use Rattle.std.specs.Prelude.{ℕ, ◌-◌, ◌≤◌, ◌<◌, ◌≡◌, [], true, ℤ, pos, length, ◌≤ℤ◌}
use Rattle.std.proofs.Math.Option.{some}
use Rattle.model.specs.Model.{Cert, Bc, Ku, San, critical}

-- there is a BC with CA, and a KU that is there has key_cert_sign
abbrev pub CheckCa : Cert → Type 0
CheckCa c = ((b : Bc) × (c.bc ≡ some b) × (b.ca ≡ true)) × ((k : Ku) → c.ku ≡ some k → k.key_cert_sign ≡ true)

-- a path length in a BC that is there is at least 0 and, for i ≥ 1, at least i - 1
abbrev pub PathLengthHolds : ℕ → Cert → Type 0
PathLengthHolds i c = (b : Bc) → c.bc ≡ some b → (l : ℤ) → b.path_length ≡ some l → (pos 0 ≤ℤ l) × (1 ≤ i → pos (i - 1) ≤ℤ l)

-- a SAN that is there has a name
abbrev pub CheckSan : Cert → Type 0
CheckSan c = (s : San) → c.san ≡ some s → 0 < length s.names

-- where the subject has no RDN there is a SAN that is marked critical
abbrev pub EmptySubjectImpliesCriticalSan : Cert → Type 0
EmptySubjectImpliesCriticalSan c = c.subject ≡ [] → (s : San) × (c.san ≡ some s) × (s.mark ≡ critical)
