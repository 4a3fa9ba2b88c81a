-- Rules 2, 3 and 6 said with orders and equations, as upstream says them; that the tests mean this is proved. Assumes nothing.
use Rattle.std.specs.Prelude.{ℕ, ◌≤◌, ◌≡◌, Bool, true}
use Rattle.model.specs.Model.{Cert, Task, rsa, dsa}

-- not before ≤ now ≤ not after
abbrev pub CheckCertTime : Task → Cert → Type 0
CheckCertTime t c = (c.not_before ≤ t.now) × (t.now ≤ c.not_after)

-- the signature bytes are the same
abbrev pub OuterInnerSigMatch : Cert → Type 0
OuterInnerSigMatch c = c.inner_signature ≡ c.outer_signature

-- an RSA key has at least so many bits, and a DSA key is allowed
abbrev pub CheckCertKeyLevel : ℕ → Bool → Cert → Type 0
CheckCertKeyLevel least dsa_allowed c = ((bits : ℕ) → c.key ≡ rsa bits → least ≤ bits) × (c.key ≡ dsa → dsa_allowed ≡ true)
