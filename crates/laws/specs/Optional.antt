-- Tests of what may be absent. Assumes nothing.
use Rattle.std.specs.Prelude.{Bool, true, false}
use Rattle.std.proofs.Math.Option.{Option, none, some}

-- passes, or is absent
abbrev pub if_there : {A : Type 0} → (A → Bool) → Option A → Bool
if_there p none = true
if_there p (some x) = p x

-- is there and passes
abbrev pub there_and : {A : Type 0} → (A → Bool) → Option A → Bool
there_and p none = false
there_and p (some x) = p x

-- is there
abbrev pub is_there : {A : Type 0} → Option A → Bool
is_there none = false
is_there (some x) = true
