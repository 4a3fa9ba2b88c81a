-- The rules by their numbers: a line a rule (document 01, "The rules"). Assumes nothing.
use Rattle.std.specs.Prelude.{ℕ, ◌+◌, List, [], Bool, true, false, not, ◌&&◌, eqb}
use Rattle.laws.specs.Optional.{is_there}
use Rattle.model.specs.Model.{Cert, Task, Chain, Lists}
use Rattle.model.specs.Decode.{chain_of, lists_of}
use Rattle.faults.specs.Places.{when}
use Rattle.faults.specs.declared.Spot.{Spot}
use Rattle.faults.specs.declared.Spot.TheVariants.{Nothing, Certificate, Pair}
use Rattle.fields.specs.Validity.{check_cert_time}
use Rattle.fields.specs.Signatures.{outer_inner_sig_match}
use Rattle.fields.specs.Uids.{issuer_subject_uid_version}
use Rattle.fields.specs.KeyUsage.{key_usage_non_empty}
use Rattle.fields.specs.KeyLevel.{check_cert_key_level}
use Rattle.key_ids.specs.KeyIds.{check_auth_subject_key_id}
use Rattle.purpose.specs.Purpose.{check_purpose, extended_key_usage_valid}
use Rattle.purpose.specs.declared.Serving.TheVariants.{ServerOrAny}
use Rattle.parts.specs.Ca.{check_ca}
use Rattle.parts.specs.PathLength.{path_length_holds}
use Rattle.parts.specs.SanNames.{check_san}
use Rattle.parts.specs.EmptySubject.{empty_subject_implies_critical_san}
use Rattle.issuing.specs.Issuing.{likely_issued}
use Rattle.constrained_o.specs.Rule14.{check_name_constraints as check_name_constraints_o}
use Rattle.constrained_c.specs.Rule14.{check_name_constraints as check_name_constraints_c}
use Rattle.constrained_c.specs.Rule16.{valid_dns_name_constraints}
use Rattle.hosts.specs.Hostname.{host_named as host_named_o}
use Rattle.hosts_c.specs.SanHost.{host_named as host_named_c}
use Rattle.roots.specs.Duration.{duration_holds}
use Rattle.roots.specs.Fingerprints.{not_in_crl, valid_root_fingerprint}
use Rattle.roots.specs.Symantec.{symantec_holds}
use Rattle.policies.specs.declared.Policy.{Policy}
use Rattle.policies.specs.declared.Policy.TheVariants.{OpenSsl, Chrome}
use Rattle.rules.specs.declared.Case.{Case}

-- what a policy without lists lends
abbrev pub no_lists : Lists
no_lists = lists_of [] []

-- ---- rules that the policies ask in two ways
-- rule 6: the least bits of an RSA key, and whether DSA keys are allowed
abbrev pub least_bits : ℕ
least_bits = 1024

abbrev pub dsa_allowed : Policy → Bool
dsa_allowed OpenSsl = true
dsa_allowed Chrome = false

-- rule 8 of certificate c, of which `leaf` says whether it is the leaf
abbrev pub purpose_holds : Policy → Bool → Cert → Bool
purpose_holds OpenSsl leaf c = check_purpose leaf c
purpose_holds Chrome leaf c = extended_key_usage_valid ServerOrAny c

-- rule 14: d keeps the constraints of c, and `leaf` says whether d is the leaf
abbrev pub constraints_hold : Policy → Bool → Cert → Cert → Bool
constraints_hold OpenSsl leaf c d = check_name_constraints_o leaf c d
constraints_hold Chrome leaf c d = check_name_constraints_c c d

-- rule 15 of the leaf
abbrev pub host_holds : Policy → Lists → Task → Cert → Bool
host_holds OpenSsl l t leaf = host_named_o t leaf
host_holds Chrome l t leaf = host_named_c l t leaf

-- ---- the rules
-- rule r holds of one certificate: l are the policy's lists, t is the task, i the certificate's position, `root` whether it is the last
unfoldable pub holds_at : Policy → Lists → Task → ℕ → ℕ → Bool → Cert → Bool
holds_at p l t r i root c =
    when r 2 (check_cert_time t c) (
    when r 3 (outer_inner_sig_match c) (
    when r 4 (issuer_subject_uid_version c) (
    when r 5 (key_usage_non_empty c) (
    when r 6 (check_cert_key_level least_bits (dsa_allowed p) c) (
    when r 7 (check_auth_subject_key_id root (eqb i 0) c) (
    when r 8 (purpose_holds p (eqb i 0) c) (
    when r 9 (check_ca c) (
    when r 10 (path_length_holds i c) (
    when r 11 (check_san c) (
    when r 12 (empty_subject_implies_critical_san c) (
    when r 15 (host_holds p l t c) (
    when r 16 (valid_dns_name_constraints c) (
    when r 18 (not_in_crl l c) (
    when r 19 (valid_root_fingerprint l t c) (
    true)))))))))))))))

-- rule r holds of two certificates, c at the first position of the pair and d at the second, j
unfoldable pub holds_between : Policy → Lists → ℕ → ℕ → Cert → Cert → Bool
holds_between p l r j c d =
    when r 13 (likely_issued d c) (
    when r 14 (constraints_hold p (eqb j 0) c d) (
    when r 17 (duration_holds l c d) (
    true)))

-- certificate i is the root
abbrev pub is_root : Chain → ℕ → Bool
is_root c i = eqb (i + 1) c.count

-- rule r is broken at certificate i, and between i and j; rule 20 alone takes the whole chain
unfoldable pub broken_at : Policy → Chain → Lists → ℕ → ℕ → Bool
broken_at p c l r i =
    not (
    when r 20 (symantec_holds l c) (
    holds_at p l c.task r i (is_root c i) (c.cert i)))

unfoldable pub broken_between : Policy → Chain → Lists → ℕ → ℕ → ℕ → Bool
broken_between p c l r i j = not (holds_between p l r j (c.cert i) (c.cert j))

-- rule r is broken at a spot of the chain
unfoldable pub broken : Policy → Chain → Lists → ℕ → Spot → Bool
broken p c l r Nothing = false
broken p c l r (Certificate i) = broken_at p c l r i.0
broken p c l r (Pair i j) = broken_between p c l r i.0 j.0

-- rule 14 speaks of a pair only where its first certificate, i, has NC
unfoldable pub asks_nothing : Chain → ℕ → ℕ → Bool
asks_nothing c r i = eqb r 14 && not (is_there (c.cert i).nc)

-- what is broken of the chain and the lists that two bundles hold
abbrev pub broken_in : Policy → List ℕ → List ℕ → List ℕ → List ℕ → ℕ → Spot → Bool
broken_in p w b pw pb = broken p (chain_of w b) (lists_of pw pb)

-- ---- of a case: the chain and the lists of its two bundles, and what is broken of them
abbrev pub chain_in : Case → Chain
chain_in c = chain_of c.chain.words.now c.chain.bytes.now

abbrev pub lists_in : Case → Lists
lists_in c = lists_of c.lists.words.now c.lists.bytes.now

abbrev pub broken_by : Case → ℕ → Spot → Bool
broken_by c = broken_in c.policy c.chain.words.now c.chain.bytes.now c.lists.words.now c.lists.bytes.now
