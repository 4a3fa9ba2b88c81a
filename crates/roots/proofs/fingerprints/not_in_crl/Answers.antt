use mathlib.Core.Path.{ap}
use mathlib.Core.Bool.{not}
use Rattle.roots.specs.Fingerprints.{not_in_crl}
use Rattle.roots.proofs.fingerprints.not_in_crl.Goals as goal

pub returns : goal.returns
unfolding not_in_crl
returns c = ap not c.is_listed.ensures
