use Rattle.std.proofs.Common.{rules}
use Prim.Native.Nat.{◌+◌}
use mathlib.Core.Bool.{not}
use Rattle.table.specs.Table.{word}
use Rattle.search.specs.Rows.{rows_of}
use Rattle.row_tests.specs.Wrong.{string_out}
use Rattle.quick.specs.Fine.{line_fine}
use Rattle.quick.proofs.Strings.{string_row}
use Rattle.quick.proofs.strings_fit.Goals as goal

pub returns : goal.returns
unfolding line_fine rows_of word
returns c = c.each_row.ensures (λ q. not (string_out c.args.chain.words.now c.args.chain.bytes.now (q + 0))) (λ q r k. string_row _ _ q (search rules))
