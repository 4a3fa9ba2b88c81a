-- The rules of upstream's `standard.rs` that stand on one of document 01's fixed lists, under its names and in its order. Assumes nothing.
use Rattle.std.specs.Prelude.{ℕ, ◌-◌, ◌≤◌, ◌<◌, ◌≡◌, ◌⊎◌, [], true, ℤ, pos, length, ◌≤ℤ◌}
use Rattle.std.proofs.Math.Option.{some}
use Rattle.model.specs.Model.{Chain, Cert, Bytes, Aki, Ski, Bc, Ku, San, critical, dsa}

-- the last certificate
abbrev pub root : Chain → Cert
root c = c.cert (c.count - 1)

-- every certificate is in date, both ends included
abbrev pub NoExpiration : Chain → Type 0
NoExpiration c = (i : ℕ) → i < c.count → ((c.cert i).not_before ≤ c.task.now) × (c.task.now ≤ (c.cert i).not_after)

-- inner and outer signature bytes are the same
abbrev pub OuterInnerSigMatch : Chain → Type 0
OuterInnerSigMatch c = (i : ℕ) → i < c.count → (c.cert i).inner_signature ≡ (c.cert i).outer_signature

-- a KU that is there has one of its nine bits
abbrev pub KeyUsageNonEmpty : Chain → Type 0
KeyUsageNonEmpty c =
    (i : ℕ) → i < c.count → (k : Ku) → (c.cert i).ku ≡ some k →
    (k.digital_signature ≡ true)
    ⊎ (k.non_repudiation ≡ true)
    ⊎ (k.key_encipherment ≡ true)
    ⊎ (k.data_encipherment ≡ true)
    ⊎ (k.key_agreement ≡ true)
    ⊎ (k.key_cert_sign ≡ true)
    ⊎ (k.crl_sign ≡ true)
    ⊎ (k.encipher_only ≡ true)
    ⊎ (k.decipher_only ≡ true)

-- an issuer UID or a subject UID is there only with version 2 or 3
abbrev pub IssuerSubjectUIDVersion : Chain → Type 0
IssuerSubjectUIDVersion c =
    (i : ℕ) → i < c.count →
    ((u : Bytes) × ((c.cert i).issuer_uid ≡ some u)) ⊎ ((u : Bytes) × ((c.cert i).subject_uid ≡ some u)) →
    ((c.cert i).version ≡ 2) ⊎ ((c.cert i).version ≡ 3)

-- a path length in a BC is at least 0
abbrev pub PathLenNonNegative : Chain → Type 0
PathLenNonNegative c = (i : ℕ) → i < c.count → (b : Bc) → (c.cert i).bc ≡ some b → (l : ℤ) → b.path_length ≡ some l → pos 0 ≤ℤ l

-- above the leaf, a path length of a CA whose KU, if there is one, has key_cert_sign is at least the number of certificates between it and the leaf
abbrev pub PathLenConstraint : Chain → Type 0
PathLenConstraint c =
    (i : ℕ) → 1 ≤ i → i < c.count → (b : Bc) → (c.cert i).bc ≡ some b → (l : ℤ) → b.path_length ≡ some l →
    b.ca ≡ true → ((k : Ku) → (c.cert i).ku ≡ some k → k.key_cert_sign ≡ true) →
    pos (i - 1) ≤ℤ l

-- above the leaf there is a BC with CA
abbrev pub NonLeafMustBeCA : Chain → Type 0
NonLeafMustBeCA c = (i : ℕ) → 1 ≤ i → i < c.count → (b : Bc) × ((c.cert i).bc ≡ some b) × (b.ca ≡ true)

-- above the leaf a KU that is there has key_cert_sign
abbrev pub NonLeafHasKeyCertSign : Chain → Type 0
NonLeafHasKeyCertSign c = (i : ℕ) → 1 ≤ i → i < c.count → (k : Ku) → (c.cert i).ku ≡ some k → k.key_cert_sign ≡ true

-- a SAN that is there has a name
abbrev pub NonEmptySAN : Chain → Type 0
NonEmptySAN c = (i : ℕ) → i < c.count → (s : San) → (c.cert i).san ≡ some s → 0 < length s.names

-- an AKI of the root is not marked critical
abbrev pub AKINonCritical : Chain → Type 0
AKINonCritical c = (a : Aki) → (root c).aki ≡ some a → a.mark ≡ critical → ⊥

-- above the leaf there is an SKI
abbrev pub NonLeafHasSKI : Chain → Type 0
NonLeafHasSKI c = (i : ℕ) → 1 ≤ i → i < c.count → (s : Ski) × ((c.cert i).ski ≡ some s)

-- a leaf whose subject has no RDN has a SAN that is marked critical
abbrev pub EmptySubjectImpliesCriticalSAN : Chain → Type 0
EmptySubjectImpliesCriticalSAN c = (c.cert 0).subject ≡ [] → (s : San) × ((c.cert 0).san ≡ some s) × (s.mark ≡ critical)

-- an SKI of the root is not marked critical
abbrev pub NonCriticalRootSKI : Chain → Type 0
NonCriticalRootSKI c = (s : Ski) → (root c).ski ≡ some s → s.mark ≡ critical → ⊥

-- no key is a DSA key
abbrev pub NoDSA : Chain → Type 0
NoDSA c = (i : ℕ) → i < c.count → (c.cert i).key ≡ dsa → ⊥
