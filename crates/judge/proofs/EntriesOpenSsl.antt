-- Where the entries of each of OpenSSL's rules stand, and that no rule besides has any. Written by tools/obeying.py. Assumes nothing.
use Prim.Native.Nat.{ℕ, ◌+◌, ◌≤◌, ◌<◌}
use mathlib.Core.Path.{◌≡◌, refl}
use mathlib.Core.Logic.{◌⊎◌, ◌↔◌}
use mathlib.Core.List.{List}
use mathlib.Core.Bool.{Bool, true, not}
use lib.Dec.{eqb}
use Rattle.model.specs.Model.{Chain, Lists}
use Rattle.fields.specs.Validity.{check_cert_time}
use Rattle.fields.specs.Signatures.{outer_inner_sig_match}
use Rattle.fields.specs.Uids.{issuer_subject_uid_version}
use Rattle.fields.specs.KeyUsage.{key_usage_non_empty}
use Rattle.fields.specs.KeyLevel.{check_cert_key_level}
use Rattle.key_ids.specs.KeyIds.{check_auth_subject_key_id}
use Rattle.purpose.specs.Purpose.{check_purpose}
use Rattle.parts.specs.Ca.{check_ca}
use Rattle.parts.specs.PathLength.{path_length_holds}
use Rattle.parts.specs.SanNames.{check_san}
use Rattle.parts.specs.EmptySubject.{empty_subject_implies_critical_san}
use Rattle.issuing.specs.Issuing.{likely_issued}
use Rattle.constrained_o.specs.Rule14.{check_name_constraints}
use Rattle.hosts.specs.Hostname.{host_named}
use Rattle.faults.specs.Index.{full_index}
use Rattle.faults.specs.Order.{In, Ascending, Due}
use Rattle.faults.specs.Places.{fewest, when}
use Rattle.faults.specs.Report.{entry, certificate, pair}
use Rattle.faults.specs.declared.Entry.{Entry}
use Rattle.faults.specs.declared.Spot.{Spot}
use Rattle.faults.specs.declared.Places.{Places}
use Rattle.faults.proofs.Standing.{nowhere_entries, each_entries, leaf_entries, neighbours_entries, pairs_entries}
use Rattle.faults.proofs.Theorems.{only}
use Rattle.policies.specs.Tables.{places_of, open_ssl_places, rules, short}
use Rattle.rules.specs.Rules.{broken, broken_at, broken_between, holds_at, holds_between, is_root}
use Rattle.policies.specs.declared.Policy.TheVariants.{OpenSsl}
use Rattle.policies.proofs.Besides.{not_openssl}
use Rattle.policies.proofs.Laws.{no_more}

module _ (c : Chain) (l : Lists) where
  abbrev n : ℕ
  n = c.count

  abbrev T : ℕ → Spot → Bool
  T = broken OpenSsl c l

  abbrev P : ℕ → Places
  P = places_of OpenSsl

  -- the entries of the chain, in order
  abbrev pub entries_of : List Entry
  entries_of = full_index short T P rules n

  -- It is the only list that ascends and holds exactly what is due, so what is said of it is said of every report.
  pub entries_are : (es : List Entry) → Ascending es → ((e : Entry) → In e es ↔ Due short T P n e) → es ≡ entries_of
  entries_are es = only short T P rules n (no_more OpenSsl) es

  -- ---- rule by rule, of at least two certificates: rule r has an entry at s
  module _ (enough : fewest ≤ n) (s : Spot) where
    abbrev pub Stands : ℕ → Type 0
    Stands r = In (entry r s) entries_of

    pub of_2 : Stands 2 ↔ ((i : ℕ) × (0 ≤ i) × (i + 0 < n) × (s ≡ certificate i) × (not (check_cert_time c.task (c.cert i)) ≡ true))
    unfolding places_of open_ssl_places when broken broken_at broken_between holds_at holds_between
    of_2 = each_entries short T P rules n (no_more OpenSsl) enough 2 _ _ refl s

    pub of_3 : Stands 3 ↔ ((i : ℕ) × (0 ≤ i) × (i + 0 < n) × (s ≡ certificate i) × (not (outer_inner_sig_match (c.cert i)) ≡ true))
    unfolding places_of open_ssl_places when broken broken_at broken_between holds_at holds_between
    of_3 = each_entries short T P rules n (no_more OpenSsl) enough 3 _ _ refl s

    pub of_4 : Stands 4 ↔ ((i : ℕ) × (0 ≤ i) × (i + 0 < n) × (s ≡ certificate i) × (not (issuer_subject_uid_version (c.cert i)) ≡ true))
    unfolding places_of open_ssl_places when broken broken_at broken_between holds_at holds_between
    of_4 = each_entries short T P rules n (no_more OpenSsl) enough 4 _ _ refl s

    pub of_5 : Stands 5 ↔ ((i : ℕ) × (0 ≤ i) × (i + 0 < n) × (s ≡ certificate i) × (not (key_usage_non_empty (c.cert i)) ≡ true))
    unfolding places_of open_ssl_places when broken broken_at broken_between holds_at holds_between
    of_5 = each_entries short T P rules n (no_more OpenSsl) enough 5 _ _ refl s

    pub of_6 : Stands 6 ↔ ((i : ℕ) × (0 ≤ i) × (i + 0 < n) × (s ≡ certificate i) × (not (check_cert_key_level 1024 true (c.cert i)) ≡ true))
    unfolding places_of open_ssl_places when broken broken_at broken_between holds_at holds_between
    of_6 = each_entries short T P rules n (no_more OpenSsl) enough 6 _ _ refl s

    pub of_7 : Stands 7 ↔ ((i : ℕ) × (0 ≤ i) × (i + 0 < n) × (s ≡ certificate i) × (not (check_auth_subject_key_id (is_root c i) (eqb i 0) (c.cert i)) ≡ true))
    unfolding places_of open_ssl_places when broken broken_at broken_between holds_at holds_between
    of_7 = each_entries short T P rules n (no_more OpenSsl) enough 7 _ _ refl s

    pub of_8 : Stands 8 ↔ ((i : ℕ) × (0 ≤ i) × (i + 0 < n) × (s ≡ certificate i) × (not (check_purpose (eqb i 0) (c.cert i)) ≡ true))
    unfolding places_of open_ssl_places when broken broken_at broken_between holds_at holds_between
    of_8 = each_entries short T P rules n (no_more OpenSsl) enough 8 _ _ refl s

    pub of_9 : Stands 9 ↔ ((i : ℕ) × (1 ≤ i) × (i + 0 < n) × (s ≡ certificate i) × (not (check_ca (c.cert i)) ≡ true))
    unfolding places_of open_ssl_places when broken broken_at broken_between holds_at holds_between
    of_9 = each_entries short T P rules n (no_more OpenSsl) enough 9 _ _ refl s

    pub of_10 : Stands 10 ↔ ((i : ℕ) × (0 ≤ i) × (i + 0 < n) × (s ≡ certificate i) × (not (path_length_holds i (c.cert i)) ≡ true))
    unfolding places_of open_ssl_places when broken broken_at broken_between holds_at holds_between
    of_10 = each_entries short T P rules n (no_more OpenSsl) enough 10 _ _ refl s

    pub of_11 : Stands 11 ↔ ((i : ℕ) × (0 ≤ i) × (i + 0 < n) × (s ≡ certificate i) × (not (check_san (c.cert i)) ≡ true))
    unfolding places_of open_ssl_places when broken broken_at broken_between holds_at holds_between
    of_11 = each_entries short T P rules n (no_more OpenSsl) enough 11 _ _ refl s

    pub of_12 : Stands 12 ↔ ((s ≡ certificate 0) × (not (empty_subject_implies_critical_san (c.cert 0)) ≡ true))
    unfolding places_of open_ssl_places when broken broken_at broken_between holds_at holds_between
    of_12 = leaf_entries short T P rules n (no_more OpenSsl) enough 12 refl s

    pub of_13 : Stands 13 ↔ ((i : ℕ) × (i + 1 < n) × (s ≡ pair i (i + 1)) × (not (likely_issued (c.cert (i + 1)) (c.cert i)) ≡ true))
    unfolding places_of open_ssl_places when broken broken_at broken_between holds_at holds_between
    of_13 = neighbours_entries short T P rules n (no_more OpenSsl) enough 13 refl s

    pub of_14 : Stands 14 ↔ ((i : ℕ) × (j : ℕ) × (1 ≤ i) × (i + 0 < n) × (j < i) × (s ≡ pair i j) × (not (check_name_constraints (eqb j 0) (c.cert i) (c.cert j)) ≡ true))
    unfolding places_of open_ssl_places when broken broken_at broken_between holds_at holds_between
    of_14 = pairs_entries short T P rules n (no_more OpenSsl) enough 14 _ _ refl s

    pub of_15 : Stands 15 ↔ ((s ≡ certificate 0) × (not (host_named c.task (c.cert 0)) ≡ true))
    unfolding places_of open_ssl_places when broken broken_at broken_between holds_at holds_between
    of_15 = leaf_entries short T P rules n (no_more OpenSsl) enough 15 refl s

    -- no rule besides has an entry
    pub of_others : (r : ℕ) → (r < 2) ⊎ (15 < r) → Stands r → ⊥
    unfolding places_of
    of_others r h = nowhere_entries short T P rules n (no_more OpenSsl) enough r (not_openssl r h) s
