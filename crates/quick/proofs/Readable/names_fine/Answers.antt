use Rattle.std.proofs.Common.{rules}
use Rattle.model.specs.Sections.{names}
use Rattle.search.specs.Rows.{rows_of}
use Rattle.lines.specs.Tables.{chain_lines}
use Rattle.quick_certs.specs.Asked.{row_fine, rows_fine, lines_of}
use Rattle.quick.proofs.Readable.names_fine.Goals as goal

pub returns : goal.returns
unfolding rows_fine rows_of
returns c = c.each_row.ensures (row_fine c.args.self.chain.words.now c.args.self.chain.bytes.now (lines_of names.count chain_lines)) (λ q r k. search rules)
