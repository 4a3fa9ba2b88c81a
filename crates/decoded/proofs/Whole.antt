-- Decoding a sound bundle cuts nothing off: each string is as long as its row says, each list as long as its count. Assumes nothing.
use Prim.Native.Nat.{ℕ, ◌+◌, ◌*◌, ◌≤◌, ◌<◌, min}
use native.Mathlib.Omega.{arith}
use mathlib.Core.Path.{◌≡◌, refl, ◌∙◌}
use mathlib.Core.List.{List}
use lib.ListN.{length, drop, length-drop}
use lib.Seq.{length-take-le}
use Rattle.laws.proofs.Rows.{rows_length}
use Rattle.table.specs.Table.{word, part, count_of, offset_of, field_of, strings, string_of, range_of, over}
use Rattle.table.specs.declared.Section.{Section}
use Rattle.model.specs.Sections.{attributes, rdns, names, usages, certs, entries, list_count}
use Rattle.model.specs.Decode.{rows_in, rdn_range, rdn_at, kind_at, name_in, name_range, generals_in, cert_word, cert_range, cert_at, eku_at, san_at, nc_at, list_word, list_range, list_at}
use Rattle.sound.specs.Answer.{SoundChain, SoundPolicy}
use Rattle.sound.specs.Shared.{string_out}
use Rattle.sound.specs.ChainFault.{ChainFault, shared}
use Rattle.sound.specs.PolicyFault.{PolicyFault, shared as shared_policy}
use Rattle.decoded.proofs.Gives.{at_most, row_right}
use Rattle.decoded.proofs.Fields.{rdn_in_law, directory_in, issuer_in, subject_in, eku_usages_in, san_names_in, permitted_in, excluded_in, list_in}

-- ---- parts and rows that lie inside are whole
part_whole : (b : List ℕ) (start len : ℕ) → start + len ≤ length b → length (part b start len) ≡ len
unfolding part
part_whole b start len h = length-take-le len (drop start b) (omega (arith, length-drop start b))

rows_whole : {A : Type 0} (g : ℕ → A) (w : List ℕ) (s : Section) (first n : ℕ) → first + n ≤ count_of w s → length (over g (rows_in w s first n)) ≡ n
unfolding rows_in range_of
rows_whole g w s first n h = rows_length g first (min (first + n) (count_of w s)) ∙ omega arith

string_fits : (w b : List ℕ) (n : ℕ) → (length b < word w (offset_of w strings + 2 * n + 0) + word w (offset_of w strings + 2 * n + 0 + 1) → ⊥) → length (string_of w b n) ≡ field_of w strings n 1
unfolding string_of field_of
string_fits w b n h =
    let p = offset_of w strings + 2 * n in
    let q : p + 0 + 1 ≡ p + 1 = omega arith in
    part_whole b (word w (p + 0)) (word w (p + 1)) (rw q at (at_most (length b) _ h))

-- ---- a sound chain bundle
module _ (w b : List ℕ) (sound : SoundChain w b) where
  -- a string is as long as its row says
  pub string_whole : (n : ℕ) → n < count_of w strings → length (string_of w b n) ≡ field_of w strings n 1
  string_whole n h = string_fits w b n (row_right (ChainFault w b) sound w _ strings 0 n h (λ p r x. shared (string_out refl r x)))

  -- so is an RDN
  pub rdn_whole : (n : ℕ) → n < count_of w rdns → length (rdn_at w b n) ≡ field_of w rdns n 1
  unfolding rdn_range
  rdn_whole n h = rows_whole _ w attributes _ _ (rdn_in_law w b sound n h)

  -- and a directory name
  pub directory_whole : (n : ℕ) → n < count_of w names → kind_at w n ≡ 1 → length (name_in w b (name_range w n)) ≡ field_of w names n 2
  unfolding name_range kind_at
  directory_whole n h e = rows_whole _ w rdns _ _ (directory_in w b sound n h e)

  -- ---- a certificate's lists, each as long as the word after its first row's number says
  module _ (n : ℕ) (h : n < count_of w certs) where
    pub issuer_whole : length (cert_at w b n).issuer ≡ cert_word w n 8
    unfolding cert_range cert_word
    issuer_whole = rows_whole _ w rdns _ _ (issuer_in w b sound n h)

    pub subject_whole : length (cert_at w b n).subject ≡ cert_word w n 10
    unfolding cert_range cert_word
    subject_whole = rows_whole _ w rdns _ _ (subject_in w b sound n h)

    pub usages_whole : (cert_word w n 21 ≡ 0 → ⊥) → length (eku_at w b n).usages ≡ cert_word w n 23
    unfolding cert_range cert_word
    usages_whole e = rows_whole _ w usages _ _ (eku_usages_in w b sound n h e)

    pub names_whole : (cert_word w n 30 ≡ 0 → ⊥) → length (san_at w b n).names ≡ cert_word w n 32
    unfolding cert_range cert_word generals_in
    names_whole e = rows_whole _ w names _ _ (san_names_in w b sound n h e)

    pub permitted_whole : (cert_word w n 33 ≡ 0 → ⊥) → length (nc_at w b n).permitted ≡ cert_word w n 35
    unfolding cert_range cert_word generals_in
    permitted_whole e = rows_whole _ w names _ _ (permitted_in w b sound n h e)

    pub excluded_whole : (cert_word w n 33 ≡ 0 → ⊥) → length (nc_at w b n).excluded ≡ cert_word w n 37
    unfolding cert_range cert_word generals_in
    excluded_whole e = rows_whole _ w names _ _ (excluded_in w b sound n h e)

-- ---- a sound policy bundle
module _ (w b : List ℕ) (sound : SoundPolicy w b) where
  -- each list is as long as its count says
  pub policy_list_whole : (k : ℕ) → k < list_count → length (list_at w b k) ≡ word w (list_word k + 1)
  unfolding list_at list_range
  policy_list_whole k h = rows_whole _ w entries (word w (list_word k)) (word w (list_word k + 1)) (list_in w b sound k h)

  -- and each string as long as its row says
  pub policy_string_whole : (n : ℕ) → n < count_of w strings → length (string_of w b n) ≡ field_of w strings n 1
  policy_string_whole n h = string_fits w b n (row_right (PolicyFault w b) sound w _ strings 0 n h (λ p r x. shared_policy (string_out refl r x)))
