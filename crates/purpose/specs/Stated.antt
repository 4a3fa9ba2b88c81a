-- Rule 8 said with "for every" and "for some", as upstream says it; that the test means this is proved. Assumes nothing.
use Rattle.std.specs.Prelude.{ℕ, ◌<◌, ◌≡◌, true, length, get_or}
use Rattle.std.proofs.Math.Option.{some}
use Rattle.model.specs.Model.{Cert, Eku, other_usage}
use Rattle.purpose.specs.Purpose.{serves}
use Rattle.purpose.specs.declared.Serving.{Serving}

-- of an EKU that is there, usage k serves for some k
abbrev pub ExtendedKeyUsageValid : Serving → Cert → Type 0
ExtendedKeyUsageValid s c = (e : Eku) → c.eku ≡ some e → (k : ℕ) × (k < length e.usages) × (serves s (get_or e.usages k other_usage) ≡ true)
