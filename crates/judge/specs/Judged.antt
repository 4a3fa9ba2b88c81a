-- What a judge must answer and write (document 01, "What the judge says"). Assumes nothing.
use Rattle.std.specs.Prelude.{ℕ, ◌≡◌, ◌⊎◌, List, [], ◌∷◌, Option, Some, None, Ok, Err}
use Rattle.model.specs.Model.{Chain, Lists}
use Rattle.model.specs.Decode.{chain_of, lists_of}
use Rattle.sound.specs.Answer.{Checked, ChainVerdict, PolicyVerdict, bundle_number, place_kind, place_first, place_second}
use Rattle.sound.specs.declared.Place.{Place}
use Rattle.sound.specs.declared.Place.TheVariants.{Nothing, Certificate, Pair}
use Rattle.sound.specs.declared.Refusal.{Refusal}
use Rattle.faults.specs.Order.{Reported}
use Rattle.faults.specs.declared.Spot.{Spot}
use Rattle.faults.specs.declared.Spot.TheVariants.{Nothing as NoSpot, Certificate as OneSpot, Pair as TwoSpots}
use Rattle.faults.specs.declared.Entry.{Entry}
use Rattle.faults.specs.declared.Tally.{Tally}
use Rattle.policies.specs.Tables.{places_of, short}
use Rattle.rules.specs.Rules.{broken, no_lists}
use Rattle.policies.specs.declared.Policy.{Policy}
use Rattle.policies.specs.declared.Policy.TheVariants.{OpenSsl, Chrome}
use Rattle.judge.specs.declared.Answer.{Answer}
use Rattle.judge.specs.declared.Answer.TheVariants.{Accepted, Broken, Refused}

-- the place of an entry
abbrev pub place_of : Spot → Place
place_of NoSpot = Nothing
place_of (OneSpot i) = Certificate i
place_of (TwoSpots i j) = Pair i j

-- the answer by the first entry: accepted if there is none, and else its rule and place with total and entries written
abbrev pub answer_by : Option Entry → ℕ → ℕ → Answer
answer_by None total written = Accepted Nothing
answer_by (Some e) total written = Broken e.rule (place_of e.spot) total written

abbrev pub answer_of : Tally → Answer
answer_of t = answer_by t.first t.total t.written

-- the answer by a refusal
abbrev pub refused_by : Refusal → Answer
refused_by r = Refused r.number r.bundle r.place

-- ---- document 01's number and values of an answer: number, bundle, kind of place, its two values, rule, total, entries written
abbrev pub answer_words : Answer → List ℕ
answer_words (Accepted q) = 0 ∷ 0 ∷ place_kind q ∷ place_first q ∷ place_second q ∷ 0 ∷ 0 ∷ 0 ∷ []
answer_words (Broken r q total written) = 1 ∷ 0 ∷ place_kind q ∷ place_first q ∷ place_second q ∷ r.0 ∷ total ∷ written ∷ []
answer_words (Refused n j q) = n ∷ bundle_number j ∷ place_kind q ∷ place_first q ∷ place_second q ∷ 0 ∷ 0 ∷ 0 ∷ []

-- ---- the judgement
-- sound bundles are judged: the report is the whole index of faults, and the answer is its first entry's
pub record Judging (p : Policy) (c : Chain) (l : Lists) (old new : List ℕ) (a : Answer) : Type 0 where
  pub tally : Tally
  pub reported : Reported short (broken p c l) (places_of p) c.count old new tally
  pub answer_is : a ≡ answer_of tally

-- what follows from the check of the bundles: a refusal is handed on, and the report stays as it was
abbrev pub Outcome : Policy → Chain → Lists → Checked → List ℕ → List ℕ → Answer → Type 0
Outcome p c l (Ok u) old new a = Judging p c l old new a
Outcome p c l (Err r) old new a = (a ≡ refused_by r) × (new ≡ old)

-- `Allowed` says which answers the check of the bundles may give
pub record Judged (Allowed : Checked → Type 0) (p : Policy) (c : Chain) (l : Lists) (old new : List ℕ) (a : Answer) : Type 0 where
  pub checked : Checked
  pub verdict : Allowed checked
  pub outcome : Outcome p c l checked old new a

-- OpenSSL takes the chain's bundle alone, and no lists
abbrev pub OpenSslJudged : List ℕ → List ℕ → List ℕ → List ℕ → Answer → Type 0
OpenSslJudged w b = Judged (ChainVerdict w b) OpenSsl (chain_of w b) no_lists

-- two bundles, of which the chain's goes first: sound if both are; a refusal is the chain's, or the policy's where the chain's bundle is sound
abbrev pub BothVerdict : List ℕ → List ℕ → List ℕ → List ℕ → Checked → Type 0
BothVerdict w b pw pb (Ok u) = ChainVerdict w b (Ok u) × PolicyVerdict pw pb (Ok u)
BothVerdict w b pw pb (Err r) = ChainVerdict w b (Err r) ⊎ (ChainVerdict w b (Ok tt) × PolicyVerdict pw pb (Err r))

-- Chrome takes the chain's bundle and the policy's, which holds its lists
abbrev pub ChromeJudged : List ℕ → List ℕ → List ℕ → List ℕ → List ℕ → List ℕ → Answer → Type 0
ChromeJudged w b pw pb = Judged (BothVerdict w b pw pb) Chrome (chain_of w b) (lists_of pw pb)
