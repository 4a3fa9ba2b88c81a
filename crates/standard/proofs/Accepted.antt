-- Only sound bundles are accepted, and a caller outside finds 0 only for an accepted chain. Assumes nothing.
use Prim.Native.Nat.{ℕ, ◌≤◌}
use native.Mathlib.Omega.{arith}
use mathlib.Core.Path.{◌≡◌, sym, ap, ◌∙◌}
use mathlib.Core.Logic.{inl, inr}
use mathlib.Core.List.{List, ◌∷◌}
use Rattle.std.specs.Prelude.{Option, Some, None, Ok, Err}
use Rattle.model.specs.Model.{Chain, Lists}
use Rattle.model.specs.Decode.{chain_of, lists_of}
use Rattle.sound.specs.ChainFault.{ChainFault}
use Rattle.sound.specs.PolicyFault.{PolicyFault}
use Rattle.sound.specs.Answer.{Checked, SoundChain, SoundPolicy, ChainVerdict, PolicyVerdict}
use Rattle.sound.specs.declared.Place.TheVariants.{Nothing}
use Rattle.sound.specs.declared.Refusal.{Refusal}
use Rattle.sound.proofs.Tables.{Layout, chain_layout, policy_layout, TableFault, size, other, section, row, Knows}
use Rattle.sound.proofs.Stated.{chain_known, policy_known}
use Rattle.faults.specs.declared.Entry.{Entry}
use Rattle.rules.specs.Rules.{no_lists}
use Rattle.policies.specs.declared.Policy.{Policy}
use Rattle.policies.specs.declared.Policy.TheVariants.{OpenSsl, Chrome}
use Rattle.judge.specs.Judged.{answer_by, answer_words, Outcome, Judged, OpenSslJudged, BothVerdict, ChromeJudged}
use Rattle.judge.specs.declared.Answer.{Answer}
use Rattle.judge.specs.declared.Answer.TheVariants.{Accepted}
use Rattle.judge.proofs.Demands.{kind}

-- ---- by any policy
module _ (Allowed : Checked → Type 0) (p : Policy) (c : Chain) (l : Lists) {old new : List ℕ} {a : Answer} (j : Judged Allowed p c l old new a) where
  -- what is accepted was found sound
  accepted_sound : a ≡ Accepted Nothing → Allowed (Ok tt)
  accepted_sound e = go j.checked j.verdict j.outcome where
    go : (r : Checked) → Allowed r → Outcome p c l r old new a → Allowed (Ok tt)
    go (Ok _) v o = v
    go (Err r) v o = absurd (omega (arith, ap kind (sym e ∙ o.0)))

  -- what has the number 0 is accepted, if no refusal has that number
  zero_accepted : ((r : Refusal) → Allowed (Err r) → 2 ≤ r.number) → {rest : List ℕ} → answer_words a ≡ 0 ∷ rest → a ≡ Accepted Nothing
  zero_accepted from2 {rest} e = go j.checked j.verdict j.outcome where
    by_first : (f : Option Entry) (total written : ℕ) → a ≡ answer_by f total written → a ≡ Accepted Nothing
    by_first None total written h = h
    by_first (Some d) total written h = let z : ◌≡◌ {A = ℕ} 0 1 = cc in absurd (omega arith)

    go : (r : Checked) → Allowed r → Outcome p c l r old new a → a ≡ Accepted Nothing
    go (Ok _) v o = by_first o.tally.first o.tally.total o.tally.written o.answer_is
    go (Err r) v o = let z : 0 ≡ r.number = cc (ap answer_words o.0) in absurd (omega (arith, from2 r v))

-- ---- refusals are numbered from 2 on
fault_from2 : (F : ℕ → ℕ → Type 0) (y : Layout) (w b : List ℕ) → Knows F y w b → (n q : ℕ) → F n q → 2 ≤ n
fault_from2 F y w b k n q f = go (k.tabled n q f) where
  go : TableFault y w b n q → 2 ≤ n
  go (size e d t) = omega arith
  go (other e d t) = omega arith
  go (section s m e d t) = omega arith
  go (row l m e t) = omega (arith, k.from5 l m)

module _ (w b : List ℕ) (r : Refusal) where
  chain_from2 : ChainVerdict w b (Err r) → 2 ≤ r.number
  unfolding ChainVerdict
  chain_from2 v = fault_from2 (ChainFault w b) (chain_layout w b) w b (chain_known w b) r.number _ v.2.due

  policy_from2 : PolicyVerdict w b (Err r) → 2 ≤ r.number
  unfolding PolicyVerdict
  policy_from2 v = fault_from2 (PolicyFault w b) (policy_layout w b) w b (policy_known w b) r.number _ v.2.due

both_from2 : (w b pw pb : List ℕ) (r : Refusal) → BothVerdict w b pw pb (Err r) → 2 ≤ r.number
both_from2 w b pw pb r (inl v) = chain_from2 w b r v
both_from2 w b pw pb r (inr v) = policy_from2 pw pb r v.1

-- ---- OpenSSL's judge
module _ (w b : List ℕ) {old new : List ℕ} {a : Answer} (j : OpenSslJudged w b old new a) where
  pub openssl_accepted_sound : a ≡ Accepted Nothing → SoundChain w b
  unfolding ChainVerdict
  openssl_accepted_sound e = accepted_sound (ChainVerdict w b) OpenSsl (chain_of w b) no_lists j e

  pub openssl_zero_accepted : {rest : List ℕ} → answer_words a ≡ 0 ∷ rest → a ≡ Accepted Nothing
  openssl_zero_accepted e = zero_accepted (ChainVerdict w b) OpenSsl (chain_of w b) no_lists j (chain_from2 w b) e

-- ---- Chrome's judge
module _ (w b pw pb : List ℕ) {old new : List ℕ} {a : Answer} (j : ChromeJudged w b pw pb old new a) where
  pub chrome_accepted_sound : a ≡ Accepted Nothing → SoundChain w b × SoundPolicy pw pb
  unfolding ChainVerdict PolicyVerdict
  chrome_accepted_sound e = accepted_sound (BothVerdict w b pw pb) Chrome (chain_of w b) (lists_of pw pb) j e

  pub chrome_zero_accepted : {rest : List ℕ} → answer_words a ≡ 0 ∷ rest → a ≡ Accepted Nothing
  chrome_zero_accepted e = zero_accepted (BothVerdict w b pw pb) Chrome (chain_of w b) (lists_of pw pb) j (both_from2 w b pw pb) e
