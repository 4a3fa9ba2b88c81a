-- A report: its entries, their words, and what it is to write them into a buffer (document 01, "What the judge says"). Nothing here knows a rule. Assumes nothing.
use Rattle.std.specs.Prelude.{ℕ, min, ◌+◌, ◌/◌, ◌<◌, ◌≡◌, List, [], ◌∷◌, ◌++◌, Bool, true, false, length, Option, Some, None}
use Rattle.std.specs.Option.{option_or}
use Rattle.faults.specs.declared.Spot.{Spot}
use Rattle.faults.specs.declared.Spot.TheVariants.{Nothing, Certificate, Pair}
use Rattle.faults.specs.declared.Entry.{Entry}
use Rattle.faults.specs.declared.Tally.{Tally}

-- the word that stands for no certificate
abbrev pub none : ℕ
none = 65535

-- the certificate i, and the pair of i and j
abbrev pub certificate : ℕ → Spot
certificate i = Certificate (record { 0 = i })

abbrev pub pair : ℕ → ℕ → Spot
pair i j = Pair (record { 0 = i }) (record { 0 = j })

-- the word i of an entry
abbrev pub first_word : Spot → ℕ
first_word Nothing = none
first_word (Certificate i) = i.0
first_word (Pair i j) = i.0

-- the word j of an entry
abbrev pub second_word : Spot → ℕ
second_word Nothing = none
second_word (Certificate i) = none
second_word (Pair i j) = j.0

-- the positions of a spot can't be taken for none
abbrev pub Named : Spot → Type 0
Named Nothing = Unit {0}
Named (Certificate i) = i.0 < none
Named (Pair i j) = (i.0 < none) × (j.0 < none)

-- rule r is broken at a spot
abbrev pub entry : ℕ → Spot → Entry
entry r s = record { rule = record { 0 = r }; spot = s }

-- an entry is three words: rule, i, j
abbrev pub words_of : Entry → List ℕ
words_of e = e.rule.0 ∷ first_word e.spot ∷ second_word e.spot ∷ []

-- an entry where the test holds, and else none
unfoldable pub one : Bool → Entry → List Entry
one true e = e ∷ []
one false e = []

-- the buffer once the entries are written: as many whole ones as fit, in order from its first word on, and every other word as it was
unfoldable pub write : List Entry → List ℕ → List ℕ
write [] b = b
write (e ∷ es) [] = []
write (e ∷ es) (x ∷ []) = x ∷ []
write (e ∷ es) (x ∷ y ∷ []) = x ∷ y ∷ []
write (e ∷ es) (x ∷ y ∷ z ∷ b) = words_of e ++ write es b

-- how many whole entries are written
abbrev pub fitting : List Entry → List ℕ → ℕ
fitting es b = min (length es) (length b / 3)

-- the first of the entries, if there is one
abbrev pub first_of : List Entry → Option Entry
first_of [] = None
first_of (e ∷ es) = Some e

-- the largest number that a count can be
abbrev pub most_count : ℕ
most_count = 18446744073709551615

-- n as a count, which stops at the largest number
abbrev pub counted : ℕ → ℕ
counted n = min n most_count

-- what a writer of the entries ensures: the words it was lent, `old`, have become `new`, and it hands back t
pub record Wrote (es : List Entry) (old new : List ℕ) (t : Tally) : Type 0 where
  pub buffer : new ≡ write es old
  pub total_is : t.total ≡ counted (length es)
  pub written_is : t.written ≡ fitting es old
  pub first_is : t.first ≡ first_of es

-- what is handed back for no entries
abbrev pub none_yet : Tally
none_yet = record { total = 0; written = 0; first = None }

-- what two writers hand back together
abbrev pub joined : Tally → Tally → Tally
joined a b = record { total = counted (a.total + b.total); written = counted (a.written + b.written); first = option_or a.first b.first }
