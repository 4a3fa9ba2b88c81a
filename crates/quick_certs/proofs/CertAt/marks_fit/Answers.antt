use Rattle.table.specs.Table.{word}
use Rattle.quick_certs.proofs.Certs.{marks_row}
use Rattle.quick_certs.proofs.CertAt.marks_fit.Goals as goal

pub returns : goal.returns
unfolding word
returns c = λ b. marks_row _ b _
