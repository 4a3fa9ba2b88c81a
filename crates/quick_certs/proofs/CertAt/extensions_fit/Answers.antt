use Rattle.table.specs.Table.{word}
use Rattle.quick_certs.proofs.Certs.{extensions_right}
use Rattle.quick_certs.proofs.CertAt.extensions_fit.Goals as goal

pub returns : goal.returns
unfolding word
returns c = extensions_right _ _ c.some_part.ensures
