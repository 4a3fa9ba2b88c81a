use Rattle.std.proofs.Common.{rules}
use Rattle.model.specs.Sections.{usages}
use Rattle.table.specs.Table.{word}
use Rattle.search.specs.Rows.{rows_of}
use Rattle.lines.specs.Tables.{chain_lines}
use Rattle.quick_certs.specs.Asked.{row_fine, rows_fine, lines_of}
use Rattle.quick.proofs.Rows.{usage_row}
use Rattle.quick.proofs.usages_fine.Goals as goal

pub returns : goal.returns
unfolding rows_fine rows_of word
returns c = λ b. c.each_row.ensures (row_fine c.args.words.now b (lines_of usages.count chain_lines)) (λ q r k. usage_row _ b q (search rules))
