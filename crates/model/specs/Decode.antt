-- The decoding of words and bytes into the model. Every definition is total: a word past the end is 0, a range is cut off at its section's count. Assumes nothing.
use Rattle.std.specs.Prelude.{ℕ, zero, suc, ◌+◌, ◌-◌, ◌*◌, ◌/◌, ◌%◌, ◌^◌, List, Bool, not, eqb, ltb, ℤ, pos, negsuc}
use Rattle.std.proofs.Math.Option.{Option, none, some}
use Rattle.laws.specs.Lists.{pick}
use Rattle.table.specs.Table.{word, count_of, field_of, string_of, range_of, over}
use Rattle.table.specs.declared.Section.{Section}
use Rattle.table.specs.declared.Range.{Range}
use Rattle.model.specs.Sections.{attributes, rdns, names, usages, certs, host_word, now_word, lists_from, entries}
use Rattle.model.specs.Model.{Bytes, Attribute, Rdn, Name, GeneralName, dns, directory, ip, other, unsupported, Mark, no_mark, not_critical, critical, Key, rsa, dsa, other_key, Usage, server_auth, client_auth, code_signing, email_protection, time_stamping, ocsp_signing, any_usage, other_usage, Aki, Ski, Eku, Bc, Ku, San, Nc, Extensions, no_extensions, some_extensions, Cert, Task, Chain, Lists}

-- what is there unless the word is 0
unfoldable pub unless_zero : {A : Type 0} → ℕ → A → Option A
unless_zero c x = pick (eqb c 0) none (some x)

-- 0 for absent, else a string number plus 1
unfoldable pub optional_string : List ℕ → List ℕ → ℕ → Option Bytes
optional_string w b c = unless_zero c (string_of w b (c - 1))

-- rows `first` and on, `n` of them, of a section
unfoldable pub rows_in : List ℕ → Section → ℕ → ℕ → Range
rows_in w s first n = range_of first n (count_of w s)

-- ---- A, R, G, U
unfoldable pub oid_at : List ℕ → List ℕ → ℕ → Bytes
oid_at w b n = string_of w b (field_of w attributes n 0)

unfoldable pub value_at : List ℕ → List ℕ → ℕ → Bytes
value_at w b n = string_of w b (field_of w attributes n 1)

abbrev pub attribute_at : List ℕ → List ℕ → ℕ → Attribute
attribute_at w b n = record { oid = oid_at w b n; value = value_at w b n }

-- the attributes of RDN n
unfoldable pub rdn_range : List ℕ → ℕ → Range
rdn_range w n = rows_in w attributes (field_of w rdns n 0) (field_of w rdns n 1)

abbrev pub rdn_at : List ℕ → List ℕ → ℕ → Rdn
rdn_at w b n = over (attribute_at w b) (rdn_range w n)

-- the name that a range of R is
abbrev pub name_in : List ℕ → List ℕ → Range → Name
name_in w b r = over (rdn_at w b) r

unfoldable pub kind_at : List ℕ → ℕ → ℕ
kind_at w n = field_of w names n 0

-- x as a string
unfoldable pub name_text : List ℕ → List ℕ → ℕ → Bytes
name_text w b n = string_of w b (field_of w names n 1)

-- x and y as a range of R
unfoldable pub name_range : List ℕ → ℕ → Range
name_range w n = rows_in w rdns (field_of w names n 1) (field_of w names n 2)

-- a name by its kind, of x as a string and of x and y as a range
unfoldable pub general_of : ℕ → Bytes → Name → GeneralName
general_of zero s n = dns s
general_of (suc zero) s n = directory n
general_of (suc (suc zero)) s n = ip s
general_of (suc (suc (suc zero))) s n = other
general_of (suc (suc (suc (suc k)))) s n = unsupported

abbrev pub general_at : List ℕ → List ℕ → ℕ → GeneralName
general_at w b n = general_of (kind_at w n) (name_text w b n) (name_in w b (name_range w n))

-- the names of a range of G
unfoldable pub generals_in : List ℕ → List ℕ → Range → List GeneralName
generals_in w b r = over (general_at w b) r

unfoldable pub usage_of : ℕ → Usage
usage_of zero = server_auth
usage_of (suc zero) = client_auth
usage_of (suc (suc zero)) = code_signing
usage_of (suc (suc (suc zero))) = email_protection
usage_of (suc (suc (suc (suc zero)))) = time_stamping
usage_of (suc (suc (suc (suc (suc zero))))) = ocsp_signing
usage_of (suc (suc (suc (suc (suc (suc zero)))))) = any_usage
usage_of (suc (suc (suc (suc (suc (suc (suc k))))))) = other_usage

unfoldable pub usage_word : List ℕ → ℕ → ℕ
usage_word w n = field_of w usages n 0

abbrev pub usage_at : List ℕ → ℕ → Usage
usage_at w n = usage_of (usage_word w n)

-- ---- codes
-- 1 no critical mark, 2 not critical, 3 critical
unfoldable pub mark_of : ℕ → Mark
mark_of c = pick (eqb c 1) no_mark (pick (eqb c 2) not_critical critical)

-- 0 RSA with its bits, 1 DSA, 2 other
unfoldable pub key_of : ℕ → ℕ → Key
key_of c bits = pick (eqb c 0) (rsa bits) (pick (eqb c 1) dsa other_key)

-- 0 or 1
unfoldable pub flag_of : ℕ → Bool
flag_of c = not (eqb c 0)

-- bit k of a word
unfoldable pub bit_of : ℕ → ℕ → Bool
bit_of k n = eqb (n / 2 ^ k % 2) 1

-- the integer of a word in two's complement
unfoldable pub signed_of : ℕ → ℤ
signed_of n = pick (ltb n (2 ^ 63)) (pos n) (negsuc (2 ^ 64 - 1 - n))

unfoldable pub extensions_of : ℕ → Extensions
extensions_of c = pick (eqb c 0) no_extensions some_extensions

-- ---- C: word j of certificate n, and words j and j + 1 as a range of a section
unfoldable pub cert_word : List ℕ → ℕ → ℕ → ℕ
cert_word w n j = field_of w certs n j

unfoldable pub cert_range : List ℕ → ℕ → ℕ → Section → Range
cert_range w n j s = rows_in w s (cert_word w n j) (cert_word w n (j + 1))

-- the nine parts, each as if it were there
module _ (w b : List ℕ) (n : ℕ) where
  abbrev pub aki_at : Aki
  aki_at = record {
    mark = mark_of (cert_word w n 15);
    key_id = optional_string w b (cert_word w n 16);
    issuer = optional_string w b (cert_word w n 17);
    serial = optional_string w b (cert_word w n 18);
  }

  abbrev pub ski_at : Ski
  ski_at = record { mark = mark_of (cert_word w n 19); key_id = string_of w b (cert_word w n 20) }

  abbrev pub eku_at : Eku
  eku_at = record { mark = mark_of (cert_word w n 21); usages = over (usage_at w) (cert_range w n 22 usages) }

  abbrev pub bc_at : Bc
  bc_at = record {
    mark = mark_of (cert_word w n 24);
    ca = flag_of (cert_word w n 25);
    path_length = unless_zero (cert_word w n 26) (signed_of (cert_word w n 27));
  }

  abbrev pub ku_at : Ku
  ku_at = record {
    mark = mark_of (cert_word w n 28);
    digital_signature = bit_of 0 (cert_word w n 29);
    non_repudiation = bit_of 1 (cert_word w n 29);
    key_encipherment = bit_of 2 (cert_word w n 29);
    data_encipherment = bit_of 3 (cert_word w n 29);
    key_agreement = bit_of 4 (cert_word w n 29);
    key_cert_sign = bit_of 5 (cert_word w n 29);
    crl_sign = bit_of 6 (cert_word w n 29);
    encipher_only = bit_of 7 (cert_word w n 29);
    decipher_only = bit_of 8 (cert_word w n 29);
  }

  abbrev pub san_at : San
  san_at = record { mark = mark_of (cert_word w n 30); names = generals_in w b (cert_range w n 31 names) }

  abbrev pub nc_at : Nc
  nc_at = record {
    mark = mark_of (cert_word w n 33);
    permitted = generals_in w b (cert_range w n 34 names);
    excluded = generals_in w b (cert_range w n 36 names);
  }

  -- certificate n, word by word
  abbrev pub cert_at : Cert
  cert_at = record {
    fingerprint = string_of w b (cert_word w n 0);
    version = cert_word w n 1;
    serial = string_of w b (cert_word w n 2);
    outer_signature = string_of w b (cert_word w n 3);
    inner_signature = string_of w b (cert_word w n 4);
    not_before = cert_word w n 5;
    not_after = cert_word w n 6;
    issuer = name_in w b (cert_range w n 7 rdns);
    subject = name_in w b (cert_range w n 9 rdns);
    key = key_of (cert_word w n 11) (cert_word w n 12);
    issuer_uid = optional_string w b (cert_word w n 13);
    subject_uid = optional_string w b (cert_word w n 14);
    aki = unless_zero (cert_word w n 15) aki_at;
    ski = unless_zero (cert_word w n 19) ski_at;
    eku = unless_zero (cert_word w n 21) eku_at;
    bc = unless_zero (cert_word w n 24) bc_at;
    ku = unless_zero (cert_word w n 28) ku_at;
    san = unless_zero (cert_word w n 30) san_at;
    nc = unless_zero (cert_word w n 33) nc_at;
    policies = unless_zero (cert_word w n 38) (mark_of (cert_word w n 38));
    aia = unless_zero (cert_word w n 39) (mark_of (cert_word w n 39));
    extensions = extensions_of (cert_word w n 40);
  }

-- ---- the chain: position i is row i
abbrev pub task_of : List ℕ → List ℕ → Task
task_of w b = record { host = optional_string w b (word w host_word); now = word w now_word }

abbrev pub chain_of : List ℕ → List ℕ → Chain
chain_of w b = record { task = task_of w b; count = count_of w certs; cert = cert_at w b }

-- ---- the lists of a policy bundle
unfoldable pub entry_at : List ℕ → List ℕ → ℕ → Bytes
entry_at w b n = string_of w b (field_of w entries n 0)

-- where the range of list k stands in the header
abbrev pub list_word : ℕ → ℕ
list_word k = lists_from + 2 * k

unfoldable pub list_range : List ℕ → ℕ → Range
list_range w k = rows_in w entries (word w (list_word k)) (word w (list_word k + 1))

unfoldable pub list_at : List ℕ → List ℕ → ℕ → List Bytes
list_at w b k = over (entry_at w b) (list_range w k)

abbrev pub lists_of : List ℕ → List ℕ → Lists
lists_of w b = record {
  public_suffix = list_at w b 0;
  crl = list_at w b 1;
  known_roots = list_at w b 2;
  symantec_roots = list_at w b 3;
  symantec_exceptions = list_at w b 4;
  india_trusted = list_at w b 5;
  india_domains = list_at w b 6;
  anssi_trusted = list_at w b 7;
  anssi_domains = list_at w b 8;
}
