-- The words of a certificate's row that are read, and the same words told from the decoded certificate. Assumes nothing.
use Rattle.std.specs.Prelude.{ℕ, ◌+◌, ◌-◌, ◌*◌, ◌^◌, Bool, true, false, List, [], ◌∷◌, eqb, ℤ, pos, negsuc, length}
use Rattle.std.proofs.Math.Option.{Option, none, some}
use Rattle.laws.specs.Lists.{pick}
use Rattle.model.specs.Model.{Mark, no_mark, not_critical, critical, Key, rsa, dsa, other_key, Extensions, no_extensions, some_extensions, Ku, Cert}

-- 0 for 0, 1 for any other number
abbrev pub whether : ℕ → ℕ
whether n = pick (eqb n 0) 0 1

-- a word that is read only where another one is not 0, and else counts as 0
abbrev pub where_present : ℕ → ℕ → ℕ
where_present m n = pick (eqb m 0) 0 n

-- The words of a row that are read, in order; one that is not read counts as 0. Of the numbers of strings it is kept whether there is a string, of the ranges how many rows they have: where
-- strings and rows stand is nothing that a decoded certificate knows.
abbrev pub read_words : (ℕ → ℕ) → List ℕ
read_words v =
    -- version, not before, not after
    v 1
    ∷ v 5
    ∷ v 6
    -- issuer, subject
    ∷ v 8
    ∷ v 10
    -- key, RSA bits
    ∷ v 11
    ∷ pick (eqb (v 11) 0) (v 12) 0
    -- issuer UID, subject UID
    ∷ whether (v 13)
    ∷ whether (v 14)
    -- AKI: its key id, issuer, serial
    ∷ v 15
    ∷ where_present (v 15) (whether (v 16))
    ∷ where_present (v 15) (whether (v 17))
    ∷ where_present (v 15) (whether (v 18))
    -- SKI
    ∷ v 19
    -- EKU: its usages
    ∷ v 21
    ∷ where_present (v 21) (v 23)
    -- BC: CA, path length present, path length
    ∷ v 24
    ∷ where_present (v 24) (v 25)
    ∷ where_present (v 24) (v 26)
    ∷ where_present (v 24) (where_present (v 26) (v 27))
    -- KU: its bits
    ∷ v 28
    ∷ where_present (v 28) (v 29)
    -- SAN: its names
    ∷ v 30
    ∷ where_present (v 30) (v 32)
    -- NC: permitted, excluded
    ∷ v 33
    ∷ where_present (v 33) (v 35)
    ∷ where_present (v 33) (v 37)
    -- policies, AIA, any extensions
    ∷ v 38
    ∷ v 39
    ∷ v 40
    ∷ []

-- 1 no critical mark, 2 not critical, 3 critical
abbrev pub mark_word : Mark → ℕ
mark_word no_mark = 1
mark_word not_critical = 2
mark_word critical = 3

-- 0 RSA, 1 DSA, 2 other
abbrev pub key_word : Key → ℕ
key_word (rsa bits) = 0
key_word dsa = 1
key_word other_key = 2

abbrev pub key_bits : Key → ℕ
key_bits (rsa bits) = bits
key_bits dsa = 0
key_bits other_key = 0

-- 0 or 1
abbrev pub flag_word : Bool → ℕ
flag_word false = 0
flag_word true = 1

-- an integer in two's complement
abbrev pub signed_word : ℤ → ℕ
signed_word (pos n) = n
signed_word (negsuc n) = 2 ^ 64 - 1 - n

-- the nine bits
abbrev pub bits_word : Ku → ℕ
bits_word k = flag_word k.digital_signature + 2 * flag_word k.non_repudiation + 4 * flag_word k.key_encipherment + 8 * flag_word k.data_encipherment + 16 * flag_word k.key_agreement + 32 * flag_word k.key_cert_sign + 64 * flag_word k.crl_sign + 128 * flag_word k.encipher_only + 256 * flag_word k.decipher_only

abbrev pub extensions_word : Extensions → ℕ
extensions_word no_extensions = 0
extensions_word some_extensions = 1

-- what is said of something, or 0 where it is absent
abbrev pub said : {A : Type 0} → (A → ℕ) → Option A → ℕ
said f none = 0
said f (some x) = f x

-- 1 where it is there
abbrev pub given : {A : Type 0} → Option A → ℕ
given = said (λ x. 1)

-- the same words, told from a decoded certificate
abbrev pub words_of : Cert → List ℕ
words_of c =
    c.version
    ∷ c.not_before
    ∷ c.not_after
    ∷ length c.issuer
    ∷ length c.subject
    ∷ key_word c.key
    ∷ key_bits c.key
    ∷ given c.issuer_uid
    ∷ given c.subject_uid
    ∷ said (λ p. mark_word p.mark) c.aki
    ∷ said (λ p. given p.key_id) c.aki
    ∷ said (λ p. given p.issuer) c.aki
    ∷ said (λ p. given p.serial) c.aki
    ∷ said (λ p. mark_word p.mark) c.ski
    ∷ said (λ p. mark_word p.mark) c.eku
    ∷ said (λ p. length p.usages) c.eku
    ∷ said (λ p. mark_word p.mark) c.bc
    ∷ said (λ p. flag_word p.ca) c.bc
    ∷ said (λ p. given p.path_length) c.bc
    ∷ said (λ p. said signed_word p.path_length) c.bc
    ∷ said (λ p. mark_word p.mark) c.ku
    ∷ said bits_word c.ku
    ∷ said (λ p. mark_word p.mark) c.san
    ∷ said (λ p. length p.names) c.san
    ∷ said (λ p. mark_word p.mark) c.nc
    ∷ said (λ p. length p.permitted) c.nc
    ∷ said (λ p. length p.excluded) c.nc
    ∷ said mark_word c.policies
    ∷ said mark_word c.aia
    ∷ extensions_word c.extensions
    ∷ []
