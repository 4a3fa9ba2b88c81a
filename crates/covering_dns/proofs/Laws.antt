-- How a DNS constraint covers, and rows that are read where they lie. Assumes nothing.
use Prim.Native.Nat.{ℕ, ◌+◌, ◌*◌}
use native.Mathlib.Nat.{add-zero}
use mathlib.Core.Path.{◌≡◌, refl, ◌∙◌}
use mathlib.Core.List.{List}
use mathlib.Core.Bool.{Bool, false}
use borrow.Author.Tests.{eq-eqb, ne_eqb}
use lib.ListN.{get_or}
use Rattle.text.specs.Texts.{lowered, match_dns_name}
use Rattle.patterns.specs.Patterns.{permit_name}
use Rattle.table.specs.Table.{word, part, offset_of, field_of, strings, string_of}
use Rattle.model.specs.Model.{Bytes, Name}
use Rattle.model.specs.Sections.{names}
use Rattle.model.specs.Decode.{general_of, kind_at, name_text}
use Rattle.sans.specs.declared.Kind.TheVariants.{Dns}
use Rattle.sans.proofs.Laws.{kind_is, dns_and_law, kind_then, kind_other}
use Rattle.covering_dns.specs.declared.Covering.{Covering}
use Rattle.covering_dns.specs.declared.Covering.TheVariants.{Lowered, Cleaned}
use Rattle.covering_dns.specs.Covers.{dns_covers, over_dns}

module _ (v : Covering) (c n : Bytes) {r : Bool} where
  pub lowered_covers : v ≡ Lowered → r ≡ match_dns_name c n → r ≡ dns_covers v c n
  unfolding dns_covers
  lowered_covers e h = rw e h

  pub cleaned_covers : v ≡ Cleaned → r ≡ permit_name c (lowered n) → r ≡ dns_covers v c n
  unfolding dns_covers
  cleaned_covers e h = rw e h

-- ---- a name whose kind q was read
module _ (v : Covering) (n : Bytes) (g : ℕ) (t : Bytes) (m : Name) {q : ℕ} (e : q ≡ g) where
  pub kind_dns : {r : Bool} → q ≡ 0 → r ≡ dns_covers v t n → r ≡ over_dns v n (general_of g t m)
  unfolding over_dns
  kind_dns z h = kind_then (dns_and_law t m (λ c. dns_covers v c n) g) (kind_is t m Dns g e refl) (eq-eqb q 0 z) h

  pub kind_no_dns : (q ≡ 0 → ⊥) → false ≡ over_dns v n (general_of g t m)
  unfolding over_dns
  kind_no_dns z = kind_other (dns_and_law t m (λ c. dns_covers v c n) g) (kind_is t m Dns g e refl) (ne_eqb q 0 z)

-- ---- a row of names that begin at a, of strings that begin at s
module _ (w : List ℕ) (n : ℕ) {a : ℕ} (e : a ≡ offset_of w names) where
  pub kind_at_law : get_or w (a + 3 * n) 0 ≡ kind_at w n
  unfolding kind_at field_of word
  kind_at_law = rw (e, add-zero) refl

  pub text_at : (b : List ℕ) {t : Bytes} → t ≡ string_of w b (get_or w (a + 3 * n + 1) 0) → t ≡ name_text w b n
  unfolding name_text field_of word
  text_at b h = h ∙ rw e refl

pub string_at : (w b : List ℕ) (x : ℕ) {s : ℕ} {t : Bytes} → s ≡ offset_of w strings → t ≡ part b (get_or w (s + 2 * x) 0) (get_or w (s + 2 * x + 1) 0) → t ≡ string_of w b x
unfolding string_of field_of word
string_at w b x e h = h ∙ rw (e, add-zero) refl
