-- The first of two faults, and of several that are looked for one after the other. That the first of all faults is found so is proved in `sound`. Assumes nothing.
use Rattle.std.specs.Prelude.{Option, Some, None, List, [], ◌∷◌, ◌&&◌, ◌||◌, eqb, ltb}
use Rattle.laws.specs.Lists.{pick}
use Rattle.sections.specs.declared.Fault.{Fault}

-- the one that goes before the other: the lowest number, then the lowest word
abbrev pub earlier_of : Option Fault → Option Fault → Option Fault
earlier_of None g = g
earlier_of (Some f) None = Some f
earlier_of (Some f) (Some g) = pick (ltb g.number f.number || (eqb g.number f.number && ltb g.word f.word)) (Some g) (Some f)

-- the first fault of f and of what is found at each element
unfoldable pub found_each : {A : Type 0} → (A → Option Fault) → Option Fault → List A → Option Fault
found_each found f [] = f
found_each found f (x ∷ xs) = found_each found (earlier_of f (found x)) xs
