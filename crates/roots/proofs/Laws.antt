-- What the code of rules 17, 19 and 20 leaves to be shown. Assumes nothing.
use Prim.Native.Nat.{ℕ, ◌-◌}
use mathlib.Core.Path.{◌≡◌, sym, ap, ◌∙◌}
use mathlib.Core.Bool.{Bool, true, false, not, or-true, or-false}
use Rattle.laws.specs.Lists.{any, rows}
use Rattle.laws.proofs.Tests.{and_then, and_stop, or_then, or_stop}
use Rattle.text.specs.Texts.{lowered}
use Rattle.model.specs.Model.{Bytes, Cert, Chain, Lists}
use Rattle.roots.specs.Duration.{is_known_root, leaf_duration_valid, duration_holds}
use Rattle.roots.specs.Fingerprints.{serves_domains, serves_host}
use Rattle.roots.specs.Symantec.{is_symantec_root, is_exception, symantec_holds}

-- r is whether the leaf lasts no longer than the calendar allows, s whether the root is known
module _ (l : Lists) (leaf root : Cert) {r : Bool} (e : r ≡ leaf_duration_valid leaf) where
  pub lasts_well : r ≡ true → true ≡ duration_holds l leaf root
  unfolding duration_holds
  lasts_well y = rw (← e, y) (sym (or-true (not (is_known_root l root))))

  pub lasts_long : {s : Bool} → r ≡ false → s ≡ is_known_root l root → not s ≡ duration_holds l leaf root
  unfolding duration_holds
  lasts_long y t = rw (← e, y) (ap not t ∙ sym (or-false (not (is_known_root l root))))

-- f is the root's fingerprint, r whether it may serve the host by india's lists
module _ (l : Lists) (root : Cert) (host : Bytes) {f : Bytes} {r : Bool} (p : f ≡ root.fingerprint) (e : r ≡ serves_domains l.india_trusted l.india_domains f (lowered host)) where
  pub india_allows : {s : Bool} → r ≡ true → s ≡ serves_domains l.anssi_trusted l.anssi_domains f (lowered host) → s ≡ serves_host l root host
  unfolding serves_host
  india_allows y t = rw (← p) (and_then e y t)

  pub india_forbids : r ≡ false → false ≡ serves_host l root host
  unfolding serves_host
  india_forbids y = rw (← p) (and_stop e _ y)

-- n is the row of the root, r whether it is one of Symantec's
module _ (l : Lists) (c : Chain) {n : ℕ} {r : Bool} (at : n ≡ c.count - 1) (e : r ≡ is_symantec_root l (c.cert n)) where
  pub symantec_root : {s : Bool} → r ≡ true → s ≡ any (is_exception l) (rows c.cert 1 n) → s ≡ symantec_holds l c
  unfolding symantec_holds
  symantec_root y t = rw (← at) (or_then (ap not e) (ap not y) t)

  pub other_root : r ≡ false → true ≡ symantec_holds l c
  unfolding symantec_holds
  other_root y = rw (← at) (or_stop (ap not e) _ (ap not y))
