-- What the proofs of the judge's functions rest on. Assumes nothing.
use Prim.Native.Nat.{ℕ, ◌<◌, ◌≤◌}
use native.Mathlib.Omega.{arith}
use mathlib.Core.Path.{◌≡◌, refl, ap, subst}
use mathlib.Core.Logic.{inl, inr}
use mathlib.Core.List.{List}
use Rattle.std.specs.Prelude.{Ok, Err}
use Rattle.table.specs.Table.{count_of}
use Rattle.model.specs.Model.{Chain, Lists}
use Rattle.model.specs.Sections.{chain_header, certs}
use Rattle.sections.specs.Placed.{chain_sections}
use Rattle.sound.specs.Limits.{most_certs}
use Rattle.sound.specs.ChainFault.{ChainFault, shared, many_certs}
use Rattle.sound.specs.PolicyFault.{PolicyFault}
use Rattle.sound.specs.Answer.{Checked, refused, First, SoundChain, SoundPolicy, ChainVerdict, PolicyVerdict}
use Rattle.sound.specs.declared.Bundle.TheVariants.{Chain as ChainBundle, Policy as PolicyBundle}
use Rattle.sound.proofs.Verdicts.{one_verdict}
use Rattle.sound.specs.declared.Refusal.{Refusal}
use Rattle.decoded.proofs.Gives.{at_most, header_whole}
use Rattle.faults.specs.Order.{Reported}
use Rattle.faults.specs.declared.Tally.{Tally}
use Rattle.policies.specs.Tables.{places_of, short}
use Rattle.rules.specs.Rules.{broken}
use Rattle.judge.specs.Judged.{answer_of, refused_by, Judging, Outcome, BothVerdict}
use Rattle.policies.specs.declared.Policy.{Policy}
use Rattle.judge.specs.declared.Answer.{Answer}

-- ---- the report
pub judging : (p : Policy) (c : Chain) (l : Lists) {n : ℕ} {old new : List ℕ} {t : Tally} {a : Answer} → n ≡ c.count → Reported short (broken p c l) (places_of p) n old new t → a ≡ answer_of t → Judging p c l old new a
judging p c l {old = old} {new = new} {t = t} e r h = record { tally = t; reported = subst (λ (k : ℕ). Reported short (broken p c l) (places_of p) k old new t) e r; answer_is = h }

-- ---- the check of the bundles
-- a sound bundle has few certificates
pub few_certs : (w b : List ℕ) → SoundChain w b → count_of w certs ≤ most_certs
few_certs w b sound = at_most most_certs (count_of w certs) (λ h. sound 2 0 (many_certs refl refl (header_whole chain_header chain_sections w b (λ n p f. sound n p (shared f))) h))

module _ (w b : List ℕ) where
  -- one verdict fits the chain's bundle, and one the policy's
  pub chain_once : (r s : Checked) → ChainVerdict w b r → ChainVerdict w b s → r ≡ s
  unfolding ChainVerdict
  chain_once = one_verdict (ChainFault w b) ChainBundle

  pub policy_once : (r s : Checked) → PolicyVerdict w b r → PolicyVerdict w b s → r ≡ s
  unfolding PolicyVerdict
  policy_once = one_verdict (PolicyFault w b) PolicyBundle

  pub chain_sound : SoundChain w b → ChainVerdict w b (Ok tt)
  unfolding ChainVerdict
  chain_sound sound = sound

  pub chain_refused : {n q : ℕ} → First (ChainFault w b) n q → ChainVerdict w b (refused ChainBundle n q)
  unfolding ChainVerdict
  chain_refused f = (refl, refl, f)

  pub policy_refused : {n q : ℕ} → First (PolicyFault w b) n q → PolicyVerdict w b (refused PolicyBundle n q)
  unfolding PolicyVerdict
  policy_refused f = (refl, refl, f)

  -- so few certificates that 32 bits count them
  pub few_enough : {r : Checked} → ChainVerdict w b r → r ≡ Ok tt → count_of w certs < 4294967296
  unfolding ChainVerdict
  few_enough v e = omega (arith, few_certs w b (rw e at v))

-- which case it is
abbrev is_sound : Checked → ℕ
is_sound (Ok u) = 1
is_sound (Err r) = 0

module _ (w b pw pb : List ℕ) where
  -- a chain's bundle is not both sound and refused
  torn : {A : Type 0} (r : Refusal) → ChainVerdict w b (Ok tt) → ChainVerdict w b (Err r) → A
  torn r v u = absurd (omega (arith, ap is_sound (chain_once w b (Ok tt) (Err r) v u)))

  -- one verdict fits the two bundles
  pub both_once : (r s : Checked) → BothVerdict w b pw pb r → BothVerdict w b pw pb s → r ≡ s
  both_once (Ok _) (Ok _) u v = refl
  both_once (Ok _) (Err s) u (inl v) = torn s u.0 v
  both_once (Ok x) (Err s) u (inr v) = policy_once pw pb (Ok x) (Err s) u.1 v.1
  both_once (Err r) (Ok _) (inl u) v = torn r v.0 u
  both_once (Err r) (Ok y) (inr u) v = policy_once pw pb (Err r) (Ok y) u.1 v.1
  both_once (Err r) (Err s) (inl u) (inl v) = chain_once w b (Err r) (Err s) u v
  both_once (Err r) (Err s) (inl u) (inr v) = torn r v.0 u
  both_once (Err r) (Err s) (inr u) (inl v) = torn s u.0 v
  both_once (Err r) (Err s) (inr u) (inr v) = policy_once pw pb (Err r) (Err s) u.1 v.1

  pub both_sound : SoundChain w b → SoundPolicy pw pb → BothVerdict w b pw pb (Ok tt)
  unfolding ChainVerdict PolicyVerdict
  both_sound c l = (c, l)

  pub both_few_enough : {r : Checked} → BothVerdict w b pw pb r → r ≡ Ok tt → count_of w certs < 4294967296
  both_few_enough v e = let u : BothVerdict w b pw pb (Ok tt) = rw e at v in few_enough w b {r = Ok tt} u.0 refl

-- ---- what follows from the check
module _ (p : Policy) (c : Chain) (l : Lists) {r : Checked} {old new : List ℕ} {a : Answer} where
  pub sound_outcome : r ≡ Ok tt → Judging p c l old new a → Outcome p c l r old new a
  sound_outcome e j = rw e j

  pub refused_outcome : (x : Refusal) → r ≡ Err x → a ≡ refused_by x → new ≡ old → Outcome p c l r old new a
  refused_outcome x e h k = rw e (h, k)
