use native.Mathlib.Omega.{arith}
use Rattle.table.specs.Table.{word}
use Rattle.quick.proofs.Strings.{string_ends, string_read}
use Rattle.quick.proofs.Readable.is_high.Goals as goal

pub overflow_add-end-2 : goal.overflow_add-end-2
unfolding word
overflow_add-end-2 c = omega (arith, string_ends _ _ c.args.self.lie _ c.requires c.offset.ensures)

pub slice_bounds-has_high-end : goal.slice_bounds-has_high-end
unfolding word
slice_bounds-has_high-end c = omega (arith, string_ends _ _ c.args.self.lie _ c.requires c.offset.ensures)

pub returns : goal.returns
unfolding word
returns c = string_read _ _ c.args.self.lie _ c.requires c.offset.ensures c.has_high.ensures
