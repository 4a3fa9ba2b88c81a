use mathlib.Core.Path.{refl}
use Rattle.table.specs.Table.{word}
use Rattle.row_tests.specs.Wrong.{there, some_part}
use Rattle.quick_certs.proofs.CertAt.some_part.Goals as goal

pub returns : goal.returns
unfolding word there some_part
returns c = refl
