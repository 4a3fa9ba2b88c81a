use Rattle.quick_certs.proofs.Certs.{cert_row}
use Rattle.quick_certs.proofs.cert_fits.Goals as goal

pub returns : goal.returns
returns c = λ b. cert_row _ b _ (c.strings_fit.ensures b) (c.key_ids_fit.ensures b) (c.ranges_fit.ensures b) (c.codes_fit.ensures b) (c.marks_fit.ensures b)
