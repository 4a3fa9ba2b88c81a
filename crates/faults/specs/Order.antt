-- What is said of a list of entries: which are due, and in what order they stand. Assumes nothing.
use Rattle.std.specs.Prelude.{ℕ, ◌≤◌, ◌<◌, ◌≡◌, ◌⊎◌, ◌↔◌, Bool, true}
use mathlib.Core.List.{List, [], ◌∷◌, Memᴰ}
use Rattle.faults.specs.Report.{first_word, second_word, Wrote}
use Rattle.faults.specs.Places.{IsPlace, fewest, short_entry}
use Rattle.faults.specs.declared.Spot.{Spot}
use Rattle.faults.specs.declared.Entry.{Entry}
use Rattle.faults.specs.declared.Tally.{Tally}
use Rattle.faults.specs.declared.Places.{Places}
use Rattle.faults.specs.declared.Places.TheVariants.{Nowhere}

-- e stands in the list
abbrev pub In : Entry → List Entry → Type 0
In e l = Memᴰ e l

-- a goes before b: by rule, then by i, then by j, as the words are
abbrev pub Less : Entry → Entry → Type 0
Less a b = (a.rule.0 < b.rule.0) ⊎ ((a.rule.0 ≡ b.rule.0) × ((first_word a.spot < first_word b.spot) ⊎ ((first_word a.spot ≡ first_word b.spot) × (second_word a.spot < second_word b.spot))))

-- each entry goes before each that stands after it
abbrev pub Ascending : List Entry → Type 0
Ascending [] = Unit {0}
Ascending (x ∷ xs) = ((y : Entry) → In y xs → Less x y) × Ascending xs

module _ (short : ℕ) (T : ℕ → Spot → Bool) (P : ℕ → Places) (n : ℕ) where
  -- the chain is too short, and e says so
  pub record DueShort (e : Entry) : Type 0 where
    pub few : n < fewest
    pub is : e ≡ short_entry short

  -- e's rule is asked at e's spot, and broken there
  pub record DueBroken (e : Entry) : Type 0 where
    pub enough : fewest ≤ n
    pub place : IsPlace (P e.rule.0) n e.spot
    pub broken : T e.rule.0 e.spot ≡ true

  -- e is due
  abbrev pub Due : Entry → Type 0
  Due e = DueShort e ⊎ DueBroken e

-- the table has no rule from `rules` on
abbrev pub NoneFrom : (ℕ → Places) → ℕ → Type 0
NoneFrom P rules = (r : ℕ) → rules ≤ r → P r ≡ Nowhere

-- what the writer of a whole report ensures: some list ascends and holds exactly what is due, and that list was written
pub record Reported (short : ℕ) (T : ℕ → Spot → Bool) (P : ℕ → Places) (n : ℕ) (old new : List ℕ) (t : Tally) : Type 0 where
  pub entries : List Entry
  pub ascending : Ascending entries
  pub exactly : (e : Entry) → In e entries ↔ Due short T P n e
  pub wrote : Wrote entries old new t
