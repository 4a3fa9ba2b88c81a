use Rattle.table.specs.Table.{word}
use Rattle.quick_certs.proofs.Certs.{codes_row}
use Rattle.quick_certs.proofs.CertAt.codes_fit.Goals as goal

pub returns : goal.returns
unfolding word
returns c = λ b. codes_row _ b _ c.extensions_fit.ensures
