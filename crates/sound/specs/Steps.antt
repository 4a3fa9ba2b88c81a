-- What only private contracts cite: what a check says of what it found so far. Assumes nothing.
use Rattle.std.specs.Prelude.{Option, Some, None, Ok, ℕ, List, Bool, not, eqb}
use Rattle.laws.specs.Lists.{pick}
use Rattle.table.specs.Table.{word}
use Rattle.sections.specs.declared.Fault.{Fault}
use Rattle.sound.specs.declared.Bundle.{Bundle}
use Rattle.sound.specs.Answer.{Checked, refused}
use Rattle.sound.specs.Limits.{edition}

-- what is said of a bundle of which this was found
abbrev pub answer_of : Bundle → Option Fault → Checked
answer_of k None = Ok tt
answer_of k (Some f) = refused k f.number f.word

-- refusals 2 and 3, of a bundle that is too large or not
abbrev pub first_word_fault : List ℕ → Bool → Option Fault
first_word_fault w large = pick large (Some (record { number = 2; word = 0 })) (pick (not (eqb (word w 0) edition)) (Some (record { number = 3; word = 0 })) None)
