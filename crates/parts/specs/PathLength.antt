-- Rule 10: how many certificates may stand between this one and the leaf. Assumes nothing.
use Rattle.std.specs.Prelude.{ℕ, ◌-◌, Bool, ◌&&◌, ◌||◌, eqb, ℤ, pos}
use Rattle.std.specs.Int.Signed.{le_z}
use Rattle.laws.specs.Optional.{if_there}
use Rattle.model.specs.Model.{Cert, Bc}

-- at least 0 and, above the leaf, at least i - 1, as integers
unfoldable pub long_enough : ℕ → ℤ → Bool
long_enough i length = le_z (pos 0) length && (eqb i 0 || le_z (pos (i - 1)) length)

-- a path length in BC is long enough, with or without CA
unfoldable pub path_length_holds : ℕ → Cert → Bool
path_length_holds i c = if_there (λ (b : Bc). if_there (long_enough i) b.path_length) c.bc
