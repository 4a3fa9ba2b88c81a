use Rattle.table.specs.Table.{strings, string_of}
use Rattle.table.proofs.Laws.{first_is, second_is}
use Rattle.table.proofs.string.Goals as goal

pub returns : goal.returns
unfolding string_of
returns c = rw (← first_is _ strings _ 0 c.two_fields-p.ensures, ← second_is _ strings _ 0 c.two_fields-p.ensures) c.cut.ensures
