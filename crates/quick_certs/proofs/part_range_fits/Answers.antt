use Rattle.table.specs.Table.{word}
use Rattle.quick_certs.proofs.Tests.{part_right}
use Rattle.quick_certs.proofs.part_range_fits.Goals as goal

pub returns : goal.returns
unfolding word
returns c = part_right _ _ _ c.range_fits.ensures
