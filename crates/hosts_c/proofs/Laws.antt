-- What the functions of this crate lean on: a name and a host that were cleaned as parts of the bytes. Assumes nothing.
use mathlib.Core.Path.{◌≡◌, refl, ◌∙◌}
use mathlib.Core.Bool.{Bool, true, false}
use Rattle.laws.specs.Lists.{eq_list}
use Rattle.text.specs.Texts.{lowered}
use Rattle.patterns.specs.Patterns.{Cleaned, match_name}
use Rattle.model.specs.Model.{Bytes}
use Rattle.hosts_c.specs.SanHost.{names_clean}

-- p is the part of the name d that cleaning hands back
module _ (exact : Bool) (name d : Bytes) {p : Bytes} (e : Cleaned d p) {r : Bool} where
  pub clean_equals : exact ≡ true → r ≡ eq_list (lowered p) name → r ≡ names_clean exact name d
  unfolding names_clean
  clean_equals y h = h ∙ rw (y, e.clean) refl

  pub clean_matches : exact ≡ false → r ≡ match_name (lowered p) name → r ≡ names_clean exact name d
  unfolding names_clean
  clean_matches y h = h ∙ rw (y, e.clean) refl
