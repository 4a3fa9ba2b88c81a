-- What rule 15 of Chrome means: the same said with "for every" and "for some", and laws that test it. Assumes nothing.
use mathlib.Core.Path.{◌≡◌, refl, sym, ◌∙◌}
use mathlib.Core.Logic.{◌↔◌}
use mathlib.Core.List.{List}
use mathlib.Core.Bool.{Bool, true, false, false≢true}
use mathlib.Core.Option.{none, some}
use Rattle.laws.specs.Lists.{any, each, eq_list}
use Rattle.laws.proofs.Equal.{equal_list, list_equal}
use Rattle.laws.proofs.Optional.{if_there_means, there_and_means}
use Rattle.ascii.specs.Bytes.{lower_byte}
use Rattle.text.specs.Texts.{quoted, lowered, starts_with, ends_with}
use Rattle.patterns.specs.Patterns.{final_dot_off, clean_name, match_name}
use Rattle.lists.proofs.Theorems.{matched_means}
use Rattle.model.specs.Model.{Bytes, GeneralName, San, Cert, Task, Lists}
use Rattle.sans.specs.Sans.{dns_and}
use Rattle.sans.specs.Stated.{SomeDns}
use Rattle.sans.proofs.Theorems.{some_dns_means}
use Rattle.hosts_c.specs.SanHost.{has_public_suffix, names_clean, match_san, host_named}
use Rattle.hosts_c.specs.Stated.{SomeExact, MatchSan, HostNamed}

-- names by both tests
module _ (l : List GeneralName) (name : Bytes) where
  exact_means : (any (dns_and (names_clean true name)) l ≡ true) ↔ SomeExact l name
  unfolding names_clean
  exact_means = (to, from) where
    to : any (dns_and (names_clean true name)) l ≡ true → SomeExact l name
    to h = let (k, m, d, e, q) = (some_dns_means (names_clean true name) l).0 h in (k, m, d, e, equal_list _ _ q)

    from : SomeExact l name → any (dns_and (names_clean true name)) l ≡ true
    from (k, m, d, e, q) = (some_dns_means (names_clean true name) l).1 (k, m, d, e, list_equal _ _ q)

  pattern_means : (any (dns_and (names_clean false name)) l ≡ true) ↔ SomeDns (λ d. match_name (clean_name d) name) l
  unfolding names_clean
  pattern_means = some_dns_means (names_clean false name) l

module _ (l : Lists) (s : San) (name : Bytes) where
  san_matches : (t : Bool) → has_public_suffix l name ≡ t → any (dns_and (names_clean t name)) s.names ≡ true → MatchSan l s name
  unfolding has_public_suffix
  san_matches true e h = record { under_suffix = λ m. (exact_means s.names name).0 h; under_none = λ f. absurd (f ((matched_means l.public_suffix name).0 e)) }
  san_matches false e h = record { under_suffix = λ m. absurd (false≢true (sym e ∙ (matched_means l.public_suffix name).1 m)); under_none = λ f. (pattern_means s.names name).0 h }

  matches_san : (t : Bool) → has_public_suffix l name ≡ t → MatchSan l s name → any (dns_and (names_clean t name)) s.names ≡ true
  unfolding has_public_suffix
  matches_san true e m = (exact_means s.names name).1 (m.under_suffix ((matched_means l.public_suffix name).0 e))
  matches_san false e m = (pattern_means s.names name).1 (m.under_none (λ h. absurd (false≢true (sym e ∙ (matched_means l.public_suffix name).1 h))))

  pub match_san_means : (match_san l s name ≡ true) ↔ MatchSan l s name
  unfolding match_san
  match_san_means = (san_matches _ refl, matches_san _ refl)

pub host_named_means : (l : Lists) (t : Task) (leaf : Cert) → (host_named l t leaf ≡ true) ↔ HostNamed l t leaf
unfolding host_named
host_named_means l t leaf = (to, from) where
  to : host_named l t leaf ≡ true → HostNamed l t leaf
  to h host e = let (s, i, m) = (there_and_means _ leaf.san).0 ((if_there_means _ t.host).0 h host e) in (s, i, (match_san_means l s (clean_name host)).0 m)

  from : HostNamed l t leaf → host_named l t leaf ≡ true
  from f = (if_there_means _ t.host).1 (λ host e. let (s, i, m) = f host e in (there_and_means _ leaf.san).1 (s, i, (match_san_means l s (clean_name host)).1 m))

-- ---- laws that test the definitions
-- without a SAN a leaf is one for no host
pub san_wanted : (l : Lists) (t : Task) (leaf : Cert) (host : Bytes) → t.host ≡ some host → leaf.san ≡ none → host_named l t leaf ≡ false
unfolding host_named
san_wanted l t leaf host e f = rw (e, f) refl

-- a name is cleaned before a star is looked for: `*.` is the plain text `*`, and `*..` is `*.`, which matches nothing
pub star_plain : (name : Bytes) → names_clean false name (quoted "*.") ≡ eq_list (quoted "*") name
unfolding names_clean clean_name final_dot_off lowered lower_byte match_name starts_with ends_with each
star_plain name = refl

pub star_nothing : (name : Bytes) → names_clean false name (quoted "*..") ≡ false
unfolding names_clean clean_name final_dot_off lowered lower_byte match_name starts_with ends_with each
star_nothing name = refl
