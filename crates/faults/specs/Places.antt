-- Where a rule is asked (document 01, "The rules"), and a table by a rule's number. Nothing here knows a rule. Assumes nothing.
use Rattle.std.specs.Prelude.{ℕ, ◌+◌, ◌-◌, ◌≤◌, ◌<◌, ◌≡◌, eqb}
use Rattle.laws.specs.Lists.{pick}
use Rattle.faults.specs.Report.{entry, certificate, pair}
use Rattle.faults.specs.declared.Spot.{Spot}
use Rattle.faults.specs.declared.Spot.TheVariants.{Nothing}
use Rattle.faults.specs.declared.Entry.{Entry}
use Rattle.faults.specs.declared.Places.{Places}
use Rattle.faults.specs.declared.Places.TheVariants.{Nowhere, Leaf, Root, LeafAndRoot, Each, Neighbours, Pairs}

-- s is one of the places p of n certificates, 0 the leaf and n - 1 the root
unfoldable pub IsPlace : Places → ℕ → Spot → Type 0
IsPlace Nowhere n s = ⊥
IsPlace Leaf n s = s ≡ certificate 0
IsPlace Root n s = s ≡ certificate (n - 1)
IsPlace LeafAndRoot n s = s ≡ pair 0 (n - 1)
IsPlace (Each from before) n s = (i : ℕ) × (from.0 ≤ i) × (i + before < n) × (s ≡ certificate i)
IsPlace Neighbours n s = (i : ℕ) × (i + 1 < n) × (s ≡ pair i (i + 1))
IsPlace (Pairs from before) n s = (i : ℕ) × (j : ℕ) × (from.0 ≤ i) × (i + before < n) × (j < i) × (s ≡ pair i j)

-- the fewest certificates that make a chain
abbrev pub fewest : ℕ
fewest = 2

-- the entry of a chain that is too short to be judged
abbrev pub short_entry : ℕ → Entry
short_entry short = entry short Nothing

-- a line of a table by number: a where r is k, and else b
unfoldable pub when : {A : Type 0} → ℕ → ℕ → A → A → A
when r k a b = pick (eqb r k) a b
