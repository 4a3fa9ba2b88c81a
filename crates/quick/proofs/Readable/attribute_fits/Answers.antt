use Rattle.table.specs.Table.{word}
use Rattle.quick.proofs.Rows.{attribute_row}
use Rattle.quick.proofs.Readable.attribute_fits.Goals as goal

pub returns : goal.returns
unfolding word
returns c = attribute_row _ _ _ c.args.self.counted c.is_ascii.ensures
