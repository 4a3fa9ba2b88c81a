use Rattle.table.specs.Table.{word}
use Rattle.quick_certs.proofs.Certs.{key_ids_row}
use Rattle.quick_certs.proofs.CertAt.key_ids_fit.Goals as goal

pub returns : goal.returns
unfolding word
returns c = λ b. key_ids_row _ b _ c.args.self.counts.counted.0
