-- The demands on the judges, each in a sentence. What each takes for granted is the judge's own contract, `Judged`. Assumes nothing.
use Prim.Native.Nat.{ℕ, ◌+◌, ◌-◌, ◌*◌, ◌/◌, ◌≤◌, ◌<◌}
use native.Mathlib.Omega.{arith}
use mathlib.Core.Path.{◌≡◌, refl, sym, ap, subst, ◌∙◌}
use mathlib.Core.Logic.{◌⊎◌, inl, inr, ⊎_elim, ◌↔◌}
use mathlib.Core.List.{List}
use lib.ListN.{length}
use Rattle.std.specs.Prelude.{Option, Some, None, Ok, Err}
use Rattle.table.specs.declared.RuleNo.{RuleNo}
use Rattle.model.specs.Model.{Chain, Lists}
use Rattle.table.specs.Table.{count_of}
use Rattle.model.specs.Sections.{certs}
use Rattle.model.specs.Decode.{chain_of, lists_of}
use Rattle.sound.specs.Answer.{Checked, First as FirstFault, SoundChain, SoundPolicy, ChainVerdict}
use Rattle.sound.specs.Limits.{most_certs}
use Rattle.sound.specs.ChainFault.{ChainFault}
use Rattle.sound.specs.PolicyFault.{PolicyFault}
use Rattle.sound.specs.declared.Bundle.{Bundle}
use Rattle.sound.specs.declared.Bundle.TheVariants.{Chain as ChainBundle, Policy as PolicyBundle}
use Rattle.sound.specs.declared.Place.{Place}
use Rattle.sound.specs.declared.Place.TheVariants.{Nothing, Word}
use Rattle.faults.specs.Order.{In, Less, Ascending, Due, DueShort, DueBroken}
use Rattle.faults.specs.Places.{short_entry}
use Rattle.faults.specs.Report.{write, fitting, first_of}
use Rattle.faults.specs.declared.Entry.{Entry}
use Rattle.faults.proofs.Theorems.{bound, first_least, first_clear, total_most, one_report, reported_is}
use Rattle.policies.proofs.Laws.{no_more, few_singles, one_of_pairs}
use Rattle.judge.proofs.Laws.{few_certs, chain_once, chain_sound, chain_refused, policy_refused, both_once, both_sound}
use Rattle.policies.specs.Tables.{places_of, rules, short}
use Rattle.rules.specs.Rules.{broken, no_lists}
use Rattle.judge.specs.Judged.{place_of, answer_by, answer_of, Judging, Outcome, Judged, OpenSslJudged, BothVerdict, ChromeJudged}
use Rattle.judge.specs.Obeys.{ObeysOpenSsl, ObeysChrome}
use Rattle.policies.specs.declared.Policy.{Policy}
use Rattle.policies.specs.declared.Policy.TheVariants.{OpenSsl, Chrome}
use Rattle.judge.specs.declared.Answer.{Answer}
use Rattle.judge.specs.declared.Answer.TheVariants.{Accepted, Broken, Refused}
use Rattle.judge.proofs.ObeyingOpenSsl as O
use Rattle.judge.proofs.ObeyingChrome as C

-- which case an answer is
abbrev pub kind : Answer → ℕ
kind (Accepted q) = 0
kind (Broken r q total written) = 1
kind (Refused n b q) = 2

clear_if : (f : Option Entry) (x y : ℕ) → answer_by f x y ≡ Accepted Nothing → f ≡ None
clear_if None x y e = refl
clear_if (Some d) x y e = absurd (omega (arith, ap kind e))

broken_if : (f : Option Entry) (x y : ℕ) {r : RuleNo} {q : Place} {total written : ℕ} → answer_by f x y ≡ Broken r q total written → (d : Entry) × (f ≡ Some d) × (r ≡ d.rule) × (q ≡ place_of d.spot)
broken_if None x y e = absurd (omega (arith, ap kind e))
broken_if (Some d) x y e = (d, refl, cc, cc)

-- ---- a judgement by any policy: what is asked of the check of its bundles is that only one answer is allowed
module _ (Allowed : Checked → Type 0) (once : (r s : Checked) → Allowed r → Allowed s → r ≡ s) (p : Policy) (c : Chain) (l : Lists) where
  -- e is due
  abbrev pub IsDue : Entry → Type 0
  IsDue = Due short (broken p c l) (places_of p) c.count

  module _ {old new : List ℕ} {a : Answer} (j : Judged Allowed p c l old new a) where
    outcome : (r : Checked) → Allowed r → Outcome p c l r old new a
    outcome r v = subst (λ (x : Checked). Outcome p c l x old new a) (once j.checked r j.verdict v) j.outcome

    -- Demand 1. What the check refuses is refused by its number, bundle and place, and every word of the report is as it was.
    pub refused : (n : ℕ) (b : Bundle) (q : Place) → Allowed (Err (record { number = n; bundle = b; place = q })) → (a ≡ Refused n b q) × (new ≡ old)
    refused n b q v = outcome (Err (record { number = n; bundle = b; place = q })) v

    -- ---- sound bundles
    module _ (sound : Allowed (Ok tt)) where
      judging : Judging p c l old new a
      judging = outcome (Ok tt) sound

      -- Demand 2. A chain is accepted exactly if nothing is due.
      pub accepted : (a ≡ Accepted Nothing) ↔ ((e : Entry) → IsDue e → ⊥)
      accepted =
          let t = judging.tally in
          let f = first_clear short (broken p c l) (places_of p) c.count judging.reported in (
            λ e. f.0 (clear_if t.first t.total t.written (sym judging.answer_is ∙ e)),
            λ h. judging.answer_is ∙ ap (λ (x : Option Entry). answer_by x t.total t.written) (f.1 h),
          )

      -- Else the answer gives the rule and the place of an entry that is due, before all others that are.
      pub names_first : (r : RuleNo) (q : Place) (total written : ℕ) → a ≡ Broken r q total written → (d : Entry) × (r ≡ d.rule) × (q ≡ place_of d.spot) × IsDue d × ((e : Entry) → IsDue e → (e ≡ d) ⊎ Less d e)
      names_first r q total written e =
          let t = judging.tally in
          let (d, f, g, h) = broken_if t.first t.total t.written (sym judging.answer_is ∙ e) in
          let (due, least) = first_least short (broken p c l) (places_of p) c.count judging.reported d f in
          (d, g, h, due, least)

      -- Demand 3. Some list ascends and holds exactly what is due. The report is that list written over the old words, as many whole entries as fit; the answer is by its first
      -- entry, with its length for the total. For n of at least 1 it has at most 19n + n(n - 1)/2 entries.
      pub report : c.count ≤ most_certs → (es : List Entry) × Ascending es × ((e : Entry) → In e es ↔ IsDue e) × (new ≡ write es old) × (a ≡ answer_by (first_of es) (length es) (fitting es old)) × (1 ≤ c.count → length es ≤ 19 * c.count + c.count * (c.count - 1) / 2)
      report few =
          let r = judging.reported in
          let exact = (total_most short (broken p c l) (places_of p) c.count r rules 19 most_certs (no_more p) (omega arith) (omega arith) few (few_singles p) (one_of_pairs p) (omega arith)).0 in
          let e = reported_is short (broken p c l) (places_of p) rules c.count (no_more p) r in (
            r.entries,
            r.ascending,
            r.exactly,
            r.wrote.buffer,
            judging.answer_is ∙ rw (exact, r.wrote.written_is, r.wrote.first_is) refl,
            λ h. rw e (bound short (broken p c l) (places_of p) rules c.count 19 (omega arith) h (few_singles p) (one_of_pairs p)),
          )

      -- A short chain has the one entry of rule 1.
      pub short_entry_law : c.count < 2 → (e : Entry) → IsDue e ↔ (e ≡ short_entry short)
      short_entry_law h e = (
        λ d. ⊎_elim (λ (x : DueShort short (broken p c l) (places_of p) c.count e). x.is) (λ (x : DueBroken short (broken p c l) (places_of p) c.count e). absurd (omega (arith, x.enough))) d,
        λ q. inl (record { few = h; is = q }),
      )

  -- Any two answers that the contract allows are equal, and so are the words of the report.
  pub one_judgement : {old new new' : List ℕ} {a a' : Answer} → Judged Allowed p c l old new a → Judged Allowed p c l old new' a' → (a ≡ a') × (new ≡ new')
  one_judgement {old} {new} {new'} {a} {a'} j k = go j.checked j.outcome (outcome k j.checked j.verdict) where
    go : (r : Checked) → Outcome p c l r old new a → Outcome p c l r old new' a' → (a ≡ a') × (new ≡ new')
    go (Ok _) x y =
        let (e, t) = one_report short (broken p c l) (places_of p) c.count x.reported y.reported in
        (x.answer_is ∙ ap answer_of t ∙ sym y.answer_is, e)
    go (Err r) x y = (x.0 ∙ sym y.0, x.1 ∙ sym y.1)

-- ---- OpenSSL's judge
module _ (w b : List ℕ) {old new : List ℕ} {a : Answer} (j : OpenSslJudged w b old new a) where
  -- A bundle with a fault is refused by the first: the lowest number, then the lowest word. Every word of the report is as it was.
  pub openssl_refuses : (n q : ℕ) → FirstFault (ChainFault w b) n q → (a ≡ Refused n ChainBundle (Word q)) × (new ≡ old)
  openssl_refuses n q f = refused (ChainVerdict w b) (chain_once w b) OpenSsl (chain_of w b) no_lists j n ChainBundle (Word q) (chain_refused w b f)

  -- ---- a sound bundle: one without a fault
  module _ (sound : SoundChain w b) where
    -- A chain is accepted exactly if it has at least two certificates and obeys each rule wherever it is asked.
    pub accepts_openssl : (a ≡ Accepted Nothing) ↔ ObeysOpenSsl (chain_of w b)
    accepts_openssl =
        let h = accepted (ChainVerdict w b) (chain_once w b) OpenSsl (chain_of w b) no_lists j (chain_sound w b sound) in
        (λ e. O.obeys (chain_of w b) no_lists (h.0 e), λ o. h.1 (O.obeyed (chain_of w b) no_lists o))

    -- The report is the whole index of faults, and the total its length: at most 19n + n(n - 1)/2.
    pub reports_openssl : (es : List Entry) × Ascending es × ((e : Entry) → In e es ↔ Due short (broken OpenSsl (chain_of w b) no_lists) (places_of OpenSsl) (count_of w certs) e) × (new ≡ write es old) × (a ≡ answer_by (first_of es) (length es) (fitting es old)) × (1 ≤ count_of w certs → length es ≤ 19 * count_of w certs + count_of w certs * (count_of w certs - 1) / 2)
    reports_openssl = report (ChainVerdict w b) (chain_once w b) OpenSsl (chain_of w b) no_lists j (chain_sound w b sound) (few_certs w b sound)

-- Any two answers of OpenSSL's judge to the same words are equal, and so are the reports, word for word.
pub openssl_once : (w b : List ℕ) {old new new' : List ℕ} {a a' : Answer} → OpenSslJudged w b old new a → OpenSslJudged w b old new' a' → (a ≡ a') × (new ≡ new')
openssl_once w b j k = one_judgement (ChainVerdict w b) (chain_once w b) OpenSsl (chain_of w b) no_lists j k

-- ---- Chrome's judge
module _ (w b pw pb : List ℕ) {old new : List ℕ} {a : Answer} (j : ChromeJudged w b pw pb old new a) where
  -- A chain's bundle with a fault is refused by the first, whatever the policy's bundle is.
  pub chrome_refuses_chain : (n q : ℕ) → FirstFault (ChainFault w b) n q → (a ≡ Refused n ChainBundle (Word q)) × (new ≡ old)
  chrome_refuses_chain n q f = refused (BothVerdict w b pw pb) (both_once w b pw pb) Chrome (chain_of w b) (lists_of pw pb) j n ChainBundle (Word q) (inl (chain_refused w b f))

  -- Under a sound chain's bundle a policy's bundle with a fault is refused by the first.
  pub chrome_refuses_policy : SoundChain w b → (n q : ℕ) → FirstFault (PolicyFault pw pb) n q → (a ≡ Refused n PolicyBundle (Word q)) × (new ≡ old)
  chrome_refuses_policy sound n q f = refused (BothVerdict w b pw pb) (both_once w b pw pb) Chrome (chain_of w b) (lists_of pw pb) j n PolicyBundle (Word q) (inr (chain_sound w b sound, policy_refused pw pb f))

  -- ---- two sound bundles
  module _ (sound : SoundChain w b) (lists-sound : SoundPolicy pw pb) where
    -- A chain is accepted exactly if it has at least two certificates and obeys each rule wherever it is asked.
    pub accepts_chrome : (a ≡ Accepted Nothing) ↔ ObeysChrome (chain_of w b) (lists_of pw pb)
    accepts_chrome =
        let h = accepted (BothVerdict w b pw pb) (both_once w b pw pb) Chrome (chain_of w b) (lists_of pw pb) j (both_sound w b pw pb sound lists-sound) in
        (λ e. C.obeys (chain_of w b) (lists_of pw pb) (h.0 e), λ o. h.1 (C.obeyed (chain_of w b) (lists_of pw pb) o))

    -- The report is the whole index of faults, and the total its length: at most 19n + n(n - 1)/2.
    pub reports_chrome : (es : List Entry) × Ascending es × ((e : Entry) → In e es ↔ Due short (broken Chrome (chain_of w b) (lists_of pw pb)) (places_of Chrome) (count_of w certs) e) × (new ≡ write es old) × (a ≡ answer_by (first_of es) (length es) (fitting es old)) × (1 ≤ count_of w certs → length es ≤ 19 * count_of w certs + count_of w certs * (count_of w certs - 1) / 2)
    reports_chrome = report (BothVerdict w b pw pb) (both_once w b pw pb) Chrome (chain_of w b) (lists_of pw pb) j (both_sound w b pw pb sound lists-sound) (few_certs w b sound)

-- Any two answers of Chrome's judge to the same words are equal, and so are the reports, word for word.
pub chrome_once : (w b pw pb : List ℕ) {old new new' : List ℕ} {a a' : Answer} → ChromeJudged w b pw pb old new a → ChromeJudged w b pw pb old new' a' → (a ≡ a') × (new ≡ new')
chrome_once w b pw pb j k = one_judgement (BothVerdict w b pw pb) (both_once w b pw pb) Chrome (chain_of w b) (lists_of pw pb) j k
