use mathlib.Core.Path.{ap₂}
use mathlib.Core.Bool.{◌&&◌}
use lib.Dec.{eqb}
use Rattle.table.proofs.Laws.{first_is, second_is}
use Rattle.model.specs.Sections.{attributes}
use Rattle.names.specs.Numbers.{same_numbers}
use Rattle.names.proofs.same_numbers.Goals as goal

pub returns : goal.returns
unfolding same_numbers
returns c =
    let x = c.two_fields-x.ensures in
    let y = c.two_fields-y.ensures in
    ap₂ ◌&&◌ (ap₂ eqb (first_is _ attributes _ 0 x) (first_is _ attributes _ 0 y)) (ap₂ eqb (second_is _ attributes _ 0 x) (second_is _ attributes _ 0 y))
