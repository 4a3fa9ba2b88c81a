-- What a check must answer (document 01, "What the judge says"): the lowest number wins, then the lowest word. Assumes nothing.
use Rattle.std.specs.Prelude.{Result, Ok, Err, ⊤, ℕ, ◌<◌, ◌≡◌, ◌⊎◌, List}
use Rattle.sound.specs.declared.Bundle.{Bundle}
use Rattle.sound.specs.declared.Bundle.TheVariants.{Chain, Policy}
use Rattle.sound.specs.declared.Place.{Place}
use Rattle.sound.specs.declared.Place.TheVariants.{Nothing, Word, Certificate, Pair}
use Rattle.sound.specs.declared.Refusal.{Refusal}
use Rattle.sound.specs.ChainFault.{ChainFault}
use Rattle.sound.specs.PolicyFault.{PolicyFault}

-- ---- document 01's numbers and values of an answer
-- 0 for the chain's bundle, 1 for the policy's
abbrev pub bundle_number : Bundle → ℕ
bundle_number Chain = 0
bundle_number Policy = 1

-- a place: 0 nothing, 1 a word, 2 a certificate, 3 a pair
abbrev pub place_kind : Place → ℕ
place_kind Nothing = 0
place_kind (Word p) = 1
place_kind (Certificate i) = 2
place_kind (Pair i j) = 3

-- its first and second value, 0 where there is none
abbrev pub place_first : Place → ℕ
place_first Nothing = 0
place_first (Word p) = p
place_first (Certificate i) = i.0
place_first (Pair i j) = i.0

abbrev pub place_second : Place → ℕ
place_second Nothing = 0
place_second (Word p) = 0
place_second (Certificate i) = 0
place_second (Pair i j) = j.0

-- ---- the first fault
-- refusal m at the word q goes before refusal n at the word p
abbrev pub Before : ℕ → ℕ → ℕ → ℕ → Type 0
Before m q n p = (m < n) ⊎ ((m ≡ n) × (q < p))

-- of the faults F this one goes before all others
pub record First (F : ℕ → ℕ → Type 0) (n p : ℕ) : Type 0 where
  pub due : F n p
  pub before : (m q : ℕ) → Before m q n p → F m q → ⊥

-- what a check answers: the bundle is sound, or refused
abbrev pub Checked : Type 0
Checked = Result ⊤ Refusal

-- the refusal of a bundle at one of its words
abbrev pub refused : Bundle → ℕ → ℕ → Checked
refused k n p = Err (record { number = n; bundle = k; place = Word p })

-- the answer that the faults of a bundle ask for: sound if there is none, and else the first, with the bundle's number, and a word as its place
abbrev pub Verdict : (ℕ → ℕ → Type 0) → Bundle → Checked → Type 0
Verdict F k (Ok x) = (n p : ℕ) → F n p → ⊥
Verdict F k (Err r) = (bundle_number r.bundle ≡ bundle_number k) × (place_kind r.place ≡ 1) × First F r.number (place_first r.place)

-- a bundle is sound if no refusal fits it
abbrev pub SoundChain : List ℕ → List ℕ → Type 0
SoundChain w b = (n p : ℕ) → ChainFault w b n p → ⊥

abbrev pub SoundPolicy : List ℕ → List ℕ → Type 0
SoundPolicy w b = (n p : ℕ) → PolicyFault w b n p → ⊥

-- the chain's bundle
unfoldable pub ChainVerdict : List ℕ → List ℕ → Checked → Type 0
ChainVerdict w b = Verdict (ChainFault w b) Chain

-- the policy's bundle
unfoldable pub PolicyVerdict : List ℕ → List ℕ → Checked → Type 0
PolicyVerdict w b = Verdict (PolicyFault w b) Policy
