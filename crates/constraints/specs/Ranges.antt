-- The constraints of a certificate as ranges of names. Assumes nothing.
use Rattle.std.specs.Prelude.{ℕ, List}
use Rattle.model.specs.Sections.{names}
use Rattle.model.specs.Decode.{cert_range}
use Rattle.constraints.specs.declared.NameConstraints.{NameConstraints}

-- permitted from word 34 on, excluded from word 36 on
abbrev pub constraints_of : List ℕ → ℕ → NameConstraints
constraints_of w c = record { permitted = cert_range w c 34 names; excluded = cert_range w c 36 names }
