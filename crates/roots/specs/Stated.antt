-- Rules 17 to 20 said with "if", "for every" and "for some", as upstream says them; that the tests of the other files mean this is proved. Assumes nothing.
use Rattle.std.specs.Prelude.{ℕ, ◌+◌, ◌-◌, ◌≤◌, ◌<◌, ◌≡◌, List, length}
use Rattle.std.proofs.Math.Option.{some}
use Rattle.text.specs.Texts.{lowered}
use Rattle.lists.specs.Stated.{entry_of, Listed, Matched}
use Rattle.model.specs.Model.{Bytes, Cert, Task, Chain, Lists}
use Rattle.calendar.specs.Stated.{SpanValid}

-- rule 17: if some entry of known_roots is the root's fingerprint, the calendar allows the leaf's time
abbrev pub DurationHolds : Lists → Cert → Cert → Type 0
DurationHolds l leaf root = Listed l.known_roots root.fingerprint → SpanValid leaf.not_before leaf.not_after

-- rule 18: for every k below the length, entry k of crl is not the fingerprint
abbrev pub NotInCrl : Lists → Cert → Type 0
NotInCrl l c = (k : ℕ) → k < length l.crl → entry_of l.crl k ≡ c.fingerprint → ⊥

-- if some entry of `trusted` is the fingerprint, some entry of `domains` matches the host
abbrev pub ServesDomains : List Bytes → List Bytes → Bytes → Bytes → Type 0
ServesDomains trusted domains fingerprint host = Listed trusted fingerprint → Matched domains host

-- rule 19: for every host that there is, lowered, that holds of india's lists and of anssi's
abbrev pub ValidRootFingerprint : Lists → Task → Cert → Type 0
ValidRootFingerprint l t root =
    (host : Bytes) → t.host ≡ some host →
    ServesDomains l.india_trusted l.india_domains root.fingerprint (lowered host)
    × ServesDomains l.anssi_trusted l.anssi_domains root.fingerprint (lowered host)

-- for some i from 1 to n - 2, some entry of symantec_exceptions is its fingerprint
abbrev pub SomeException : Lists → Chain → Type 0
SomeException l c = (i : ℕ) × (1 ≤ i) × (i + 1 < c.count) × Listed l.symantec_exceptions (c.cert i).fingerprint

-- rule 20: if some entry of symantec_roots is the root's fingerprint, that
abbrev pub SymantecHolds : Lists → Chain → Type 0
SymantecHolds l c = Listed l.symantec_roots (c.cert (c.count - 1)).fingerprint → SomeException l c
