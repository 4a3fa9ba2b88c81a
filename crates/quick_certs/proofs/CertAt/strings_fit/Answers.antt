use Rattle.table.specs.Table.{word}
use Rattle.quick_certs.proofs.Certs.{strings_row}
use Rattle.quick_certs.proofs.CertAt.strings_fit.Goals as goal

pub returns : goal.returns
unfolding word
returns c = λ b. strings_row _ b _ c.args.self.counts.counted.0
