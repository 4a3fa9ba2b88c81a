use Rattle.std.proofs.Common.{rules}
use Rattle.model.specs.Sections.{rdns}
use Rattle.table.specs.Table.{word}
use Rattle.search.specs.Rows.{rows_of}
use Rattle.lines.specs.Tables.{chain_lines}
use Rattle.quick_certs.specs.Asked.{row_fine, rows_fine, lines_of}
use Rattle.quick.proofs.Rows.{rdn_row}
use Rattle.quick.proofs.rdns_fine.Goals as goal

pub returns : goal.returns
unfolding rows_fine rows_of word
returns c = λ b. c.each_row.ensures (row_fine c.args.words.now b (lines_of rdns.count chain_lines)) (λ q r k. rdn_row _ b q c.count-attributes.ensures (search rules))
