-- Judges that the contract shuts out, by name: one that refuses always, answers the same always, writes nothing, writes only the first entry, or invents a total. Assumes nothing.
use Prim.Native.Nat.{ℕ, ◌≤◌, ◌<◌}
use native.Mathlib.Omega.{arith}
use mathlib.Core.Path.{◌≡◌, refl, sym, ap, ◌∙◌}
use mathlib.Core.Logic.{⊎_elim, ◌↔◌}
use mathlib.Core.List.Memᴰ
use mathlib.Core.List.{List, [], ◌∷◌}
use lib.ListN.{length, get_or}
use Rattle.std.specs.Prelude.{Option, Some, None, Ok}
use Rattle.table.specs.declared.RuleNo.{RuleNo}
use Rattle.model.specs.Model.{Chain, Lists}
use Rattle.model.specs.Decode.{chain_of, lists_of}
use Rattle.sound.specs.Limits.{most_certs}
use Rattle.sound.specs.Answer.{Checked, SoundChain, SoundPolicy}
use Rattle.sound.specs.declared.Bundle.{Bundle}
use Rattle.sound.specs.declared.Place.{Place}
use Rattle.faults.specs.Order.{In, Ascending, Due, DueShort, DueBroken}
use Rattle.faults.specs.Places.{IsPlace}
use Rattle.faults.specs.Report.{write, first_of, fitting}
use Rattle.faults.specs.declared.Entry.{Entry}
use Rattle.faults.proofs.Theorems.{only}
use Rattle.policies.specs.Tables.{places_of, rules, short}
use Rattle.rules.specs.Rules.{broken}
use Rattle.policies.specs.declared.Policy.{Policy}
use Rattle.policies.proofs.Laws.{no_more, no_rule_0}
use Rattle.judge.specs.Judged.{answer_by, Judged, OpenSslJudged, ChromeJudged}
use Rattle.judge.specs.Obeys.{ObeysOpenSsl, ObeysChrome}
use Rattle.judge.specs.declared.Answer.{Answer}
use Rattle.judge.specs.declared.Answer.TheVariants.{Broken, Refused}
use Rattle.judge.proofs.Demands.{kind, report, accepts_openssl, accepts_chrome}

no_refusal : (f : Option Entry) (x y : ℕ) → kind (answer_by f x y) < 2
no_refusal None x y = omega arith
no_refusal (Some e) x y = omega arith

total_of : (f : Option Entry) (x y : ℕ) {r : RuleNo} {q : Place} {total written : ℕ} → Broken r q total written ≡ answer_by f x y → total ≡ x
total_of None x y e = absurd (omega (arith, ap kind e))
total_of (Some d) x y e = cc

-- ---- sound bundles, by any policy; what is asked of the check of its bundles is that only one answer is allowed
module _ (Allowed : Checked → Type 0) (once : (r s : Checked) → Allowed r → Allowed s → r ≡ s) (p : Policy) (c : Chain) (l : Lists) (sound : Allowed (Ok tt)) (few : c.count ≤ most_certs) where
  -- what is due
  abbrev pub IsDue : Entry → Type 0
  IsDue = Due short (broken p c l) (places_of p) c.count

  -- what a judge may answer
  abbrev Says : List ℕ → List ℕ → Answer → Type 0
  Says = Judged Allowed p c l

  -- rule 0 is no rule
  due_rule : (e : Entry) → IsDue e → e.rule.0 ≡ 0 → ⊥
  unfolding IsPlace
  due_rule e d z = ⊎_elim
      (λ (x : DueShort short (broken p c l) (places_of p) c.count e). omega (arith, z, ap (λ (y : Entry). y.rule.0) x.is))
      (λ (x : DueBroken short (broken p c l) (places_of p) c.count e). rw (z, no_rule_0 p) at x.place)
      d

  module _ {old new : List ℕ} {a : Answer} (j : Says old new a) where
    -- They are not refused, so no judge refuses always.
    pub refusing_always : (n : ℕ) (k : Bundle) (q : Place) → a ≡ Refused n k q → ⊥
    refusing_always n k q e =
        let (es, asc, ex, buffer, answer, most) = report Allowed once p c l j sound few in
        omega (arith, no_refusal (first_of es) (length es) (fitting es old), ap kind (sym answer ∙ e))

    -- The total is the length of the full list, and no other number.
    pub inventing_total : (es : List Entry) → Ascending es → ((e : Entry) → In e es ↔ IsDue e) → (r : RuleNo) (q : Place) (total written : ℕ) → a ≡ Broken r q total written → total ≡ length es
    inventing_total es asc ex r q total written e =
        let (fs, asc', ex', buffer, answer, most) = report Allowed once p c l j sound few in
        let one = only short (broken p c l) (places_of p) rules c.count (no_more p) in
        let same : fs ≡ es = one fs asc' ex' ∙ sym (one es asc ex) in
        total_of (first_of fs) (length fs) (fitting fs old) (sym e ∙ answer) ∙ ap length same

  -- Where something is due and a whole entry fits over a word 0, that word does not stay: no judge writes nothing.
  pub writing_nothing : (e : Entry) → IsDue e → (y z : ℕ) (rest : List ℕ) {new : List ℕ} {a : Answer} → Says (0 ∷ y ∷ z ∷ rest) new a → get_or new 0 0 ≡ 0 → ⊥
  unfolding write
  writing_nothing e d y z rest j g =
      let (es, asc, ex, buffer, answer, most) = report Allowed once p c l j sound few in
      go es ex (rw buffer at g) where
        go : (es : List Entry) → ((f : Entry) → In f es ↔ IsDue f) → get_or (write es (0 ∷ y ∷ z ∷ rest)) 0 0 ≡ 0 → ⊥
        go [] ex h = Memᴰ.not-nil ((ex e).1 d)
        go (x ∷ es) ex h = due_rule x ((ex x).0 (Memᴰ.head refl)) h

  -- Where two entries are due and both fit over words 0, the second one's word does not stay: no judge writes only the first.
  pub writing_one : (e f : Entry) → IsDue e → IsDue f → (e ≡ f → ⊥) → (o i k y z : ℕ) (rest : List ℕ) {new : List ℕ} {a : Answer} → Says (o ∷ i ∷ k ∷ 0 ∷ y ∷ z ∷ rest) new a → get_or new 3 0 ≡ 0 → ⊥
  unfolding write
  writing_one e f d b differ o i k y z rest j g =
      let (es, asc, ex, buffer, answer, most) = report Allowed once p c l j sound few in
      go es ex (rw buffer at g) where
        go : (es : List Entry) → ((f : Entry) → In f es ↔ IsDue f) → get_or (write es (o ∷ i ∷ k ∷ 0 ∷ y ∷ z ∷ rest)) 3 0 ≡ 0 → ⊥
        go [] ex h = Memᴰ.not-nil ((ex e).1 d)
        go (x ∷ []) ex h = differ (Memᴰ.eq_of_singleton ((ex e).1 d) ∙ sym (Memᴰ.eq_of_singleton ((ex f).1 b)))
        go (x ∷ u ∷ es) ex h = due_rule u ((ex u).0 (Memᴰ.tail (Memᴰ.head refl))) h

-- ---- Of sound bundles, some of which obey and some of which do not, no judge says the same.
module _ (w b x d : List ℕ) (sound : SoundChain w b) (sound' : SoundChain x d) {old new old' new' : List ℕ} {a : Answer} where
  pub openssl_same_always : ObeysOpenSsl (chain_of w b) → (ObeysOpenSsl (chain_of x d) → ⊥) → OpenSslJudged w b old new a → OpenSslJudged x d old' new' a → ⊥
  openssl_same_always o broken j k = broken ((accepts_openssl x d k sound').0 ((accepts_openssl w b j sound).1 o))

  pub chrome_same_always : (pw pb px pd : List ℕ) → SoundPolicy pw pb → SoundPolicy px pd → ObeysChrome (chain_of w b) (lists_of pw pb) → (ObeysChrome (chain_of x d) (lists_of px pd) → ⊥) → ChromeJudged w b pw pb old new a → ChromeJudged x d px pd old' new' a → ⊥
  chrome_same_always pw pb px pd s t o broken j k = broken ((accepts_chrome x d px pd k sound' t).0 ((accepts_chrome w b pw pb j sound s).1 o))
