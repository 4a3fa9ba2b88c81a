-- What rule 15 means: the same said with "for every" and "for some", and laws that test it. Assumes nothing.
use mathlib.Core.Path.{◌≡◌, refl, sym, ◌∙◌}
use mathlib.Core.Logic.{◌↔◌, inl, inr, ⊎_elim}
use mathlib.Core.Bool.{Bool, true, false, not, ◌&&◌, ◌||◌, false≢true, or-true, or-false}
use mathlib.Core.Option.{Option, none, some}
use Rattle.laws.specs.Lists.{any}
use Rattle.laws.specs.Optional.{if_there, there_and}
use Rattle.text.specs.Texts.{lowered}
use Rattle.text.proofs.Theorems.{lowered_twice}
use Rattle.patterns.specs.Patterns.{check_valid_pattern}
use Rattle.model.specs.Model.{Bytes, San, Cert, Task}
use Rattle.sans.specs.Sans.{dns_and, check_san_has_dns, some_common}
use Rattle.sans.proofs.Theorems.{there_means, some_dns_means, check_san_has_dns_means, some_common_means}
use Rattle.hosts.specs.Hostname.{names_host, check_hostname, host_named}
use Rattle.hosts.specs.Stated.{CheckHostname, HostNamed}

module _ (c : Cert) (host : Bytes) where
  abbrev named_in : San → Bool
  named_in s = any (dns_and (names_host host)) s.names

  check_hostname_says : (t d : Bool) → there_and named_in c.san ≡ t → check_san_has_dns c ≡ d → (t || (not d && some_common (names_host host) c.subject)) ≡ true → CheckHostname c host
  check_hostname_says true d e f h = let (s, i, q) = (there_means named_in c.san).0 e in inl (s, i, (some_dns_means (names_host host) s.names).0 q)
  check_hostname_says false true e f h = absurd (false≢true h)
  check_hostname_says false false e f h = inr (λ m. absurd (false≢true (sym f ∙ (check_san_has_dns_means c).1 m)), (some_common_means (names_host host) c.subject).0 h)

  no_dns : (d : Bool) → (d ≡ true → ⊥) → not d ≡ true
  no_dns true f = absurd (f refl)
  no_dns false f = refl

  pub check_hostname_means : (check_hostname c host ≡ true) ↔ CheckHostname c host
  unfolding check_hostname
  check_hostname_means = (check_hostname_says _ _ refl refl, from) where
    from : CheckHostname c host → check_hostname c host ≡ true
    from m =
        ⊎_elim
        (λ (s, i, q). rw ((there_means named_in c.san).1 (s, i, (some_dns_means (names_host host) s.names).1 q)) refl)
        (λ (f, q). rw (no_dns (check_san_has_dns c) (λ d. f ((check_san_has_dns_means c).0 d)), (some_common_means (names_host host) c.subject).1 q) (or-true (there_and named_in c.san)))
        m

pub host_named_means : (t : Task) (leaf : Cert) → (host_named t leaf ≡ true) ↔ HostNamed t leaf
unfolding host_named
host_named_means t leaf = (to, from) where
  to : host_named t leaf ≡ true → HostNamed t leaf
  to h host e = (check_hostname_means leaf host).0 (rw e at h)

  from : HostNamed t leaf → host_named t leaf ≡ true
  from f = go t.host (λ host e. (check_hostname_means leaf host).1 (f host e)) where
    go : (o : Option Bytes) → ((host : Bytes) → o ≡ some host → check_hostname leaf host ≡ true) → if_there (check_hostname leaf) o ≡ true
    go none g = refl
    go (some host) g = g host refl

-- ---- laws that test the definitions
-- letters of both cases are the same in a host
pub case_unseen : (host s : Bytes) → names_host (lowered host) s ≡ names_host host s
unfolding names_host
case_unseen host s = rw (lowered_twice host) refl

-- what is no valid pattern names no host
pub pattern_wanted : (host s : Bytes) → check_valid_pattern s ≡ false → names_host host s ≡ false
unfolding names_host
pattern_wanted host s h = rw h refl

-- any DNS name in the SAN, valid or not, switches the common names off
pub dns_name_decides : (c : Cert) (host : Bytes) → check_san_has_dns c ≡ true → check_hostname c host ≡ there_and (λ (s : San). any (dns_and (names_host host)) s.names) c.san
unfolding check_hostname
dns_name_decides c host h = rw h (or-false _)
