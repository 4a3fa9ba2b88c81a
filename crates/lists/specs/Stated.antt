-- The same said with "for some", as upstream says it; that the tests of Listed.antt mean this is proved. Assumes nothing.
use Rattle.std.specs.Prelude.{ℕ, ◌<◌, ◌≡◌, List, [], true, length, get_or}
use Rattle.patterns.specs.Patterns.{match_name}
use Rattle.model.specs.Model.{Bytes}

-- entry k of a list
abbrev pub entry_of : List Bytes → ℕ → Bytes
entry_of l k = get_or l k []

-- for some k below the length, entry k is the text
abbrev pub Listed : List Bytes → Bytes → Type 0
Listed l s = (k : ℕ) × (k < length l) × (entry_of l k ≡ s)

-- for some k below the length, entry k matches the name
abbrev pub Matched : List Bytes → Bytes → Type 0
Matched l n = (k : ℕ) × (k < length l) × (match_name (entry_of l k) n ≡ true)
