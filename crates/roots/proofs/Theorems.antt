-- What rules 17 to 20 mean: the same said with "if", "for every" and "for some", and laws that test them. Assumes nothing.
use Prim.Native.Nat.{◌-◌}
use native.Mathlib.Omega.{arith}
use mathlib.Core.Path.{◌≡◌, refl, sym, ◌∙◌}
use mathlib.Core.Logic.{◌↔◌}
use mathlib.Core.List.{List}
use mathlib.Core.Bool.{Bool, true, false, not, ◌||◌, true≢false}
use mathlib.Core.Option.{Option, none, some}
use borrow.Author.Tests.{not-true}
use Rattle.laws.specs.Lists.{run, rows, any}
use Rattle.laws.specs.Optional.{if_there}
use Rattle.laws.proofs.Meaning.{any_some, some_any}
use Rattle.laws.proofs.Tests.{and_left, and_right}
use Rattle.text.specs.Texts.{lowered}
use Rattle.lists.specs.Listed.{listed}
use Rattle.lists.proofs.Theorems.{listed_means, matched_means}
use Rattle.model.specs.Model.{Bytes, Cert, Task, Chain, Lists}
use Rattle.calendar.proofs.Theorems.{span_valid_means}
use Rattle.roots.specs.Duration.{is_known_root, leaf_duration_valid, duration_holds}
use Rattle.roots.specs.Fingerprints.{not_in_crl, serves_domains, serves_host, valid_root_fingerprint}
use Rattle.roots.specs.Symantec.{is_symantec_root, is_exception, symantec_holds}
use Rattle.roots.specs.Stated.{DurationHolds, NotInCrl, ServesDomains, ValidRootFingerprint, SomeException, SymantecHolds}

-- ---- a test that says "if p, then q"
module _ {P Q : Type 0} {p q : Bool} (s : (p ≡ true) ↔ P) (t : (q ≡ true) ↔ Q) where
  if_means : ((not p || q) ≡ true) ↔ (P → Q)
  if_means = (to, from) where
    to : (not p || q) ≡ true → P → Q
    to h x = t.0 (rw (s.1 x) at h)

    from : (P → Q) → (not p || q) ≡ true
    from f = go p (λ h. t.1 (f (s.0 h))) where
      go : (b : Bool) → (b ≡ true → q ≡ true) → (not b || q) ≡ true
      go true g = g refl
      go false g = refl

-- ---- rule 17
pub duration_holds_means : (l : Lists) (leaf root : Cert) → (duration_holds l leaf root ≡ true) ↔ DurationHolds l leaf root
unfolding duration_holds is_known_root leaf_duration_valid
duration_holds_means l leaf root = if_means (listed_means l.known_roots root.fingerprint) (span_valid_means leaf.not_before leaf.not_after)

-- ---- rule 18
pub not_in_crl_means : (l : Lists) (c : Cert) → (not_in_crl l c ≡ true) ↔ NotInCrl l c
unfolding not_in_crl
not_in_crl_means l c = (to, from) where
  to : not_in_crl l c ≡ true → NotInCrl l c
  to h k m e = true≢false (sym ((listed_means l.crl c.fingerprint).1 (k, m, e)) ∙ not-true _ h)

  from : NotInCrl l c → not_in_crl l c ≡ true
  from f = go (listed l.crl c.fingerprint) (λ h. let (k, m, e) = (listed_means l.crl c.fingerprint).0 h in f k m e) where
    go : (t : Bool) → (t ≡ true → ⊥) → not t ≡ true
    go true g = absurd (g refl)
    go false g = refl

-- ---- rule 19
serves_domains_means : (trusted domains : List Bytes) (fingerprint host : Bytes) → (serves_domains trusted domains fingerprint host ≡ true) ↔ ServesDomains trusted domains fingerprint host
unfolding serves_domains
serves_domains_means trusted domains fingerprint host = if_means (listed_means trusted fingerprint) (matched_means domains host)

module _ (l : Lists) (t : Task) (root : Cert) where
  abbrev india : Bytes → Bool
  india host = serves_domains l.india_trusted l.india_domains root.fingerprint (lowered host)

  pub valid_root_fingerprint_means : (valid_root_fingerprint l t root ≡ true) ↔ ValidRootFingerprint l t root
  unfolding valid_root_fingerprint serves_host
  valid_root_fingerprint_means = (to, from) where
    to : valid_root_fingerprint l t root ≡ true → ValidRootFingerprint l t root
    to h host e =
        let k = rw e at h in
        ((serves_domains_means _ _ _ _).0 (and_left (india host) _ k), (serves_domains_means _ _ _ _).0 (and_right (india host) _ k))

    from : ValidRootFingerprint l t root → valid_root_fingerprint l t root ≡ true
    from f = go t.host (λ host e. let (i, a) = f host e in rw ((serves_domains_means l.india_trusted l.india_domains root.fingerprint (lowered host)).1 i) ((serves_domains_means _ _ _ _).1 a)) where
      go : (o : Option Bytes) → ((host : Bytes) → o ≡ some host → serves_host l root host ≡ true) → if_there (serves_host l root) o ≡ true
      go none g = refl
      go (some host) g = g host refl

-- ---- rule 20
module _ (l : Lists) (c : Chain) where
  some_exception_means : (any (is_exception l) (rows c.cert 1 (c.count - 1)) ≡ true) ↔ SomeException l c
  unfolding is_exception
  some_exception_means = (to, from) where
    to : any (is_exception l) (rows c.cert 1 (c.count - 1)) ≡ true → SomeException l c
    to h = let (i, a, m, e) = any_some (is_exception l) c.cert 1 (c.count - 1) h in (i, a, omega arith, (listed_means _ _).0 e)

    from : SomeException l c → any (is_exception l) (rows c.cert 1 (c.count - 1)) ≡ true
    from (i, a, m, e) = some_any (is_exception l) c.cert 1 (c.count - 1) (i, a, omega arith, (listed_means _ _).1 e)

  pub symantec_holds_means : (symantec_holds l c ≡ true) ↔ SymantecHolds l c
  unfolding symantec_holds is_symantec_root
  symantec_holds_means = if_means (listed_means l.symantec_roots (c.cert (c.count - 1)).fingerprint) some_exception_means

  -- nothing stands between a leaf and its own issuer: under a root of Symantec two certificates break rule 20
  pub two_break : c.count ≡ 2 → is_symantec_root l (c.cert 1) ≡ true → symantec_holds l c ≡ false
  unfolding symantec_holds rows run any
  two_break n h = rw (n, h) refl
