use mathlib.Core.Path.{ap₂}
use mathlib.Core.Bool.{◌||◌}
use Rattle.row_tests.specs.Wrong.{some_part}
use Rattle.row_tests.proofs.Row.some_part.Goals as goal

pub returns : goal.returns
unfolding some_part
returns c = ap₂ ◌||◌ (ap₂ ◌||◌ (ap₂ ◌||◌ (ap₂ ◌||◌ (ap₂ ◌||◌ (ap₂ ◌||◌ (ap₂ ◌||◌ (ap₂ ◌||◌ c.there.ensures c.there-2.ensures) c.there-3.ensures) c.there-4.ensures) c.there-5.ensures) c.there-6.ensures) c.there-7.ensures) c.there-8.ensures) c.there-9.ensures
