-- When a section is misplaced, refusal 4, and the sections of both bundles (document 01, "What the judge says"). Assumes nothing.
use Rattle.std.specs.Prelude.{Option, Some, None, ℕ, ◌+◌, ◌*◌, List, [], ◌∷◌, Bool, ◌||◌, ltb, length}
use Rattle.laws.specs.Lists.{pick}
use Rattle.table.specs.Table.{count_of, offset_of, strings}
use Rattle.table.specs.declared.Section.{Section}
use Rattle.model.specs.Sections.{attributes, rdns, names, usages, certs, entries}
use Rattle.sections.specs.declared.Fault.{Fault}

-- a section, even an empty one, begins in the header or ends past the words
unfoldable pub misplaced : ℕ → List ℕ → Section → Bool
misplaced header w s = ltb (offset_of w s) header || ltb (length w) (offset_of w s + s.size * count_of w s)

-- whether a section is misplaced, at the word of its count
unfoldable pub found_section : ℕ → List ℕ → Section → Option Fault
found_section header w s = pick (misplaced header w s) (Some (record { number = 4; word = s.count })) None

-- the sections of a chain bundle
abbrev pub chain_sections : List Section
chain_sections = strings ∷ attributes ∷ rdns ∷ names ∷ usages ∷ certs ∷ []

-- the sections of a policy bundle
abbrev pub policy_sections : List Section
policy_sections = strings ∷ entries ∷ []
