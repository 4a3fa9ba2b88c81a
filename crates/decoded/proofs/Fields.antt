-- What each field of a sound bundle is: a number in its table, a range in its section, a code in its range, a text in ASCII. Assumes nothing.
use Prim.Native.Nat.{ℕ, ◌+◌, ◌-◌, ◌*◌, ◌<◌, ◌≤◌}
use native.Mathlib.Omega.{arith}
use native.Mathlib.Decide.{dec_lt}
use mathlib.Core.Path.{◌≡◌, refl}
use mathlib.Core.List.{List}
use Rattle.table.specs.Table.{word, count_of, offset_of, field_of, strings}
use Rattle.table.specs.declared.Section.{Section}
use Rattle.model.specs.Sections.{attributes, rdns, names, usages, certs, host_word, purpose_word, entries, list_count}
use Rattle.model.specs.Decode.{list_word}
use Rattle.sound.specs.Answer.{SoundChain, SoundPolicy}
use Rattle.sound.specs.Where.{RowWord, PartWord, EntryWord, NoString, NoOptional, NoRange, High}
use Rattle.sound.specs.ChainFault.{ChainFault, MarkWord, host_out, oid_out, value_out, rdn_out, dns_out, directory_out, ip_out, fingerprint_out, serial_out, outer_signature_out, inner_signature_out, issuer_out, subject_out, issuer_uid_out, subject_uid_out, aki_key_id_out, aki_issuer_out, aki_serial_out, ski_key_id_out, eku_usages_out, san_names_out, permitted_out, excluded_out, kind_over, usage_over, version_over, key_over, mark_over, ca_over, has_length_over, ku_bits_over, extensions_over, extensions_denied, host_high, value_high, dns_high, other_purpose}
use Rattle.sound.specs.PolicyFault.{PolicyFault, entry_out, list_out, public_suffix_high, india_domain_high, anssi_domain_high}
use Rattle.decoded.proofs.Gives.{at_most, Ascii, string_number, optional_number, range_lies, text_is_ascii, row_right, part_right, name_right}

-- ---- a sound chain bundle
module _ (w b : List ℕ) (sound : SoundChain w b) where
  -- ---- the header
  -- the host is absent or a string, and in ASCII
  pub host_in : word w host_word ≤ count_of w strings
  host_in = optional_number w host_word (λ x. sound 5 host_word (host_out refl refl x))

  pub host_ascii : (word w host_word ≡ 0 → ⊥) → Ascii w b (word w host_word - 1)
  host_ascii t = text_is_ascii w b (word w host_word - 1) (λ x. sound 7 host_word (host_high refl refl t x))

  -- the purpose is 0
  pub purpose_zero : word w purpose_word ≡ 0
  purpose_zero = elim (dec_lt 0 (word w purpose_word)) [ yes l ↦ absurd (sound 8 purpose_word (other_purpose refl refl (λ e. omega arith))) | no l ↦ omega arith ]

  -- ---- what a line of the refusals says of row i of a section
  module _ (s : Section) (j i : ℕ) (h : i < count_of w s) where
    number : ((p : ℕ) → RowWord w s j p → NoString w p → ChainFault w b 5 p) → field_of w s i j < count_of w strings
    unfolding field_of
    number line = string_number w _ (row_right (ChainFault w b) sound w (NoString w) s j i h line)

    optional : ((p : ℕ) → RowWord w s j p → NoOptional w p → ChainFault w b 5 p) → field_of w s i j ≤ count_of w strings
    unfolding field_of
    optional line = optional_number w _ (row_right (ChainFault w b) sound w (NoOptional w) s j i h line)

    range : (r : Section) → ((p : ℕ) → RowWord w s j p → NoRange w r p → ChainFault w b 5 p) → field_of w s i j + field_of w s i (j + 1) ≤ count_of w r
    unfolding field_of
    range r line =
        let q : offset_of w s + s.size * i + j + 1 ≡ offset_of w s + s.size * i + (j + 1) = omega arith in
        rw q at (range_lies w _ r (row_right (ChainFault w b) sound w (NoRange w r) s j i h line))

    code : (k : ℕ) → ((p : ℕ) → RowWord w s j p → k < word w p → ChainFault w b 6 p) → field_of w s i j ≤ k
    unfolding field_of
    code k line = at_most k _ (row_right (ChainFault w b) sound w (λ p. k < word w p) s j i h line)

  -- of certificate i, if it has the part that word m marks
  module _ (m j i : ℕ) (h : i < count_of w certs) (t : field_of w certs i m ≡ 0 → ⊥) where
    part_number : ((p : ℕ) → PartWord w m j p → NoString w p → ChainFault w b 5 p) → field_of w certs i j < count_of w strings
    unfolding field_of
    part_number line = string_number w _ (part_right (ChainFault w b) sound w (NoString w) m j i h t line)

    part_optional : ((p : ℕ) → PartWord w m j p → NoOptional w p → ChainFault w b 5 p) → field_of w certs i j ≤ count_of w strings
    unfolding field_of
    part_optional line = optional_number w _ (part_right (ChainFault w b) sound w (NoOptional w) m j i h t line)

    part_range : (r : Section) → ((p : ℕ) → PartWord w m j p → NoRange w r p → ChainFault w b 5 p) → field_of w certs i j + field_of w certs i (j + 1) ≤ count_of w r
    unfolding field_of
    part_range r line =
        let q : offset_of w certs + certs.size * i + j + 1 ≡ offset_of w certs + certs.size * i + (j + 1) = omega arith in
        rw q at (range_lies w _ r (part_right (ChainFault w b) sound w (NoRange w r) m j i h t line))

    part_code : (k : ℕ) → ((p : ℕ) → PartWord w m j p → k < word w p → ChainFault w b 6 p) → field_of w certs i j ≤ k
    unfolding field_of
    part_code k line = at_most k _ (part_right (ChainFault w b) sound w (λ p. k < word w p) m j i h t line)

  -- ---- attribute i: its OID and value are strings, the value in ASCII
  module _ (i : ℕ) (h : i < count_of w attributes) where
    pub oid_in : field_of w attributes i 0 < count_of w strings
    oid_in = number attributes 0 i h (λ p. oid_out refl)

    pub value_in : field_of w attributes i 1 < count_of w strings
    value_in = number attributes 1 i h (λ p. value_out refl)

    pub value_ascii : Ascii w b (field_of w attributes i 1)
    unfolding field_of
    value_ascii = text_is_ascii w b _ (row_right (ChainFault w b) sound w (λ p. High w b (word w p)) attributes 1 i h (λ p. value_high refl))

  -- ---- RDN i: its attributes are a range of A
  pub rdn_in_law : (i : ℕ) → i < count_of w rdns → field_of w rdns i 0 + field_of w rdns i 1 ≤ count_of w attributes
  rdn_in_law i h = range rdns 0 i h attributes (λ p. rdn_out refl)

  -- ---- name i
  module _ (i : ℕ) (h : i < count_of w names) where
    -- its kind is one of five
    pub kind_in : field_of w names i 0 ≤ 4
    kind_in = code names 0 i h 4 (λ p. kind_over refl)

    -- x of a DNS name is a string, in ASCII
    pub dns_in : field_of w names i 0 ≡ 0 → field_of w names i 1 < count_of w strings
    unfolding field_of
    dns_in e = string_number w _ (name_right (ChainFault w b) sound w (NoString w) 0 1 i h e (λ p. dns_out refl))

    pub dns_ascii : field_of w names i 0 ≡ 0 → Ascii w b (field_of w names i 1)
    unfolding field_of
    dns_ascii e = text_is_ascii w b _ (name_right (ChainFault w b) sound w (λ p. High w b (word w p)) 0 1 i h e (λ p. dns_high refl))

    -- x and y of a directory name are a range of R
    pub directory_in : field_of w names i 0 ≡ 1 → field_of w names i 1 + field_of w names i 2 ≤ count_of w rdns
    unfolding field_of
    directory_in e =
        let q : offset_of w names + names.size * i + 1 + 1 ≡ offset_of w names + names.size * i + 2 = omega arith in
        rw q at (range_lies w _ rdns (name_right (ChainFault w b) sound w (NoRange w rdns) 1 1 i h e (λ p. directory_out refl)))

    -- x of an IP name is a string
    pub ip_in : field_of w names i 0 ≡ 2 → field_of w names i 1 < count_of w strings
    unfolding field_of
    ip_in e = string_number w _ (name_right (ChainFault w b) sound w (NoString w) 2 1 i h e (λ p. ip_out refl))

  -- ---- a usage is one of eight
  pub usage_in : (i : ℕ) → i < count_of w usages → field_of w usages i 0 ≤ 7
  usage_in i h = code usages 0 i h 7 (λ p. usage_over refl)

  -- ---- certificate i, word by word; a part's words where the part is there
  module _ (i : ℕ) (h : i < count_of w certs) where
    abbrev v : ℕ → ℕ
    v j = field_of w certs i j

    abbrev Has : ℕ → Type 0
    Has m = v m ≡ 0 → ⊥

    pub fingerprint_in : v 0 < count_of w strings
    fingerprint_in = number certs 0 i h (λ p. fingerprint_out refl)

    -- the version has 32 bits
    pub version_in : v 1 ≤ 4294967295
    version_in = code certs 1 i h 4294967295 (λ p. version_over refl)

    pub serial_in : v 2 < count_of w strings
    serial_in = number certs 2 i h (λ p. serial_out refl)

    pub outer_signature_in : v 3 < count_of w strings
    outer_signature_in = number certs 3 i h (λ p. outer_signature_out refl)

    pub inner_signature_in : v 4 < count_of w strings
    inner_signature_in = number certs 4 i h (λ p. inner_signature_out refl)

    pub issuer_in : v 7 + v 8 ≤ count_of w rdns
    issuer_in = range certs 7 i h rdns (λ p. issuer_out refl)

    pub subject_in : v 9 + v 10 ≤ count_of w rdns
    subject_in = range certs 9 i h rdns (λ p. subject_out refl)

    pub key_in : v 11 ≤ 2
    key_in = code certs 11 i h 2 (λ p. key_over refl)

    pub issuer_uid_in : v 13 ≤ count_of w strings
    issuer_uid_in = optional certs 13 i h (λ p. issuer_uid_out refl)

    pub subject_uid_in : v 14 ≤ count_of w strings
    subject_uid_in = optional certs 14 i h (λ p. subject_uid_out refl)

    pub mark_in : (m : ℕ) → MarkWord m → v m ≤ 3
    mark_in m k = code certs m i h 3 (λ p. mark_over m k refl)

    pub aki_key_id_in : Has 15 → v 16 ≤ count_of w strings
    aki_key_id_in t = part_optional 15 16 i h t (λ p. aki_key_id_out refl)

    pub aki_issuer_in : Has 15 → v 17 ≤ count_of w strings
    aki_issuer_in t = part_optional 15 17 i h t (λ p. aki_issuer_out refl)

    pub aki_serial_in : Has 15 → v 18 ≤ count_of w strings
    aki_serial_in t = part_optional 15 18 i h t (λ p. aki_serial_out refl)

    pub ski_key_id_in : Has 19 → v 20 < count_of w strings
    ski_key_id_in t = part_number 19 20 i h t (λ p. ski_key_id_out refl)

    pub eku_usages_in : Has 21 → v 22 + v 23 ≤ count_of w usages
    eku_usages_in t = part_range 21 22 i h t usages (λ p. eku_usages_out refl)

    pub ca_in : Has 24 → v 25 ≤ 1
    ca_in t = part_code 24 25 i h t 1 (λ p. ca_over refl)

    pub has_length_in : Has 24 → v 26 ≤ 1
    has_length_in t = part_code 24 26 i h t 1 (λ p. has_length_over refl)

    pub ku_bits_in : Has 28 → v 29 ≤ 511
    ku_bits_in t = part_code 28 29 i h t 511 (λ p. ku_bits_over refl)

    pub san_names_in : Has 30 → v 31 + v 32 ≤ count_of w names
    san_names_in t = part_range 30 31 i h t names (λ p. san_names_out refl)

    pub permitted_in : Has 33 → v 34 + v 35 ≤ count_of w names
    permitted_in t = part_range 33 34 i h t names (λ p. permitted_out refl)

    pub excluded_in : Has 33 → v 36 + v 37 ≤ count_of w names
    excluded_in t = part_range 33 36 i h t names (λ p. excluded_out refl)

    pub extensions_in : v 40 ≤ 1
    extensions_in = code certs 40 i h 1 (λ p. extensions_over refl)

    -- with a part there are extensions
    pub extensions_said : (m : ℕ) → MarkWord m → Has m → v 40 ≡ 0 → ⊥
    unfolding field_of
    extensions_said m k t = part_right (ChainFault w b) sound w (λ p. word w p ≡ 0) m 40 i h t (λ p. extensions_denied m k refl)

-- ---- a sound policy bundle
module _ (w b : List ℕ) (sound : SoundPolicy w b) where
  -- an entry of L is a string
  pub entry_in : (i : ℕ) → i < count_of w entries → field_of w entries i 0 < count_of w strings
  unfolding field_of
  entry_in i h = string_number w _ (row_right (PolicyFault w b) sound w (NoString w) entries 0 i h (λ p. entry_out refl))

  -- each list is a range of L
  pub list_in : (k : ℕ) → k < list_count → word w (list_word k) + word w (list_word k + 1) ≤ count_of w entries
  list_in k h = range_lies w (list_word k) entries (λ x. sound 5 (list_word k) (list_out k h refl refl x))

  -- ---- entry i, if list k holds it
  module _ (i : ℕ) (h : i < count_of w entries) where
    abbrev Holds : ℕ → Type 0
    Holds k = (word w (list_word k) ≤ i) × (i < word w (list_word k) + word w (list_word k + 1))

    listed_ascii : (k : ℕ) → Holds k → ((p : ℕ) → EntryWord w k p → High w b (word w p) → PolicyFault w b 7 p) → Ascii w b (field_of w entries i 0)
    unfolding field_of EntryWord
    listed_ascii k t line = text_is_ascii w b _ (λ x. sound 7 _ (line _ (i, (h, refl), t.0, t.1) x))

    -- domains are in ASCII
    pub public_suffix_ascii : Holds 0 → Ascii w b (field_of w entries i 0)
    public_suffix_ascii t = listed_ascii 0 t (λ p. public_suffix_high refl)

    pub india_domain_ascii : Holds 6 → Ascii w b (field_of w entries i 0)
    india_domain_ascii t = listed_ascii 6 t (λ p. india_domain_high refl)

    pub anssi_domain_ascii : Holds 8 → Ascii w b (field_of w entries i 0)
    anssi_domain_ascii t = listed_ascii 8 t (λ p. anssi_domain_high refl)
