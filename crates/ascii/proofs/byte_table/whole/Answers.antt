use mathlib.Core.Path.{refl}
use Rattle.laws.specs.Lists.{each, rows, run}
use Rattle.laws.proofs.Equal.{equal_list}
use Rattle.ascii.specs.Bytes.{whole_table, entry_of, class_of, lower_byte}
use Rattle.ascii.proofs.byte_table.whole.Goals as goal

pub returns : goal.returns
unfolding each rows run whole_table entry_of class_of lower_byte
returns c = equal_list _ _ refl
