-- Assumes nothing.
use Rattle.model.proofs.Optional.{none_passes, some_passes}
use Rattle.roots.specs.Fingerprints.{valid_root_fingerprint}
use Rattle.roots.proofs.fingerprints.valid_root_fingerprint.Goals as goal

pub returns-in-None : goal.returns-in-None
unfolding valid_root_fingerprint
returns-in-None c = none_passes _ c.in-None.ensures

pub returns-in-Some : goal.returns-in-Some
unfolding valid_root_fingerprint
returns-in-Some c = some_passes _ c.in-Some.ensures c.serves_host.ensures
