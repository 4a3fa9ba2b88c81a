-- The same said with "for every", as upstream says it; that the test means this is proved. Assumes nothing.
use Rattle.std.specs.Prelude.{◌≡◌}
use Rattle.std.proofs.Math.Option.{some}
use Rattle.model.specs.Model.{Bytes, Cert, Aki, Ski}

-- of the subject's AKI: its key id is that of an SKI of the issuer, where both exist, and its serial is the issuer's, where it has one
abbrev pub CheckAuthKeyId : Cert → Cert → Type 0
CheckAuthKeyId issuer subject =
    (a : Aki)
    → subject.aki ≡ some a
    → ((k : Bytes) → a.key_id ≡ some k → (s : Ski) → issuer.ski ≡ some s → s.key_id ≡ k) × ((n : Bytes) → a.serial ≡ some n → issuer.serial ≡ n)
