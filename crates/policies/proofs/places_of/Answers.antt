-- Each policy has its own. Written by tools/reports.py. Assumes nothing.
use Rattle.policies.specs.Tables.{places_of}
use Rattle.policies.proofs.places_of.Goals as goal

pub returns-in-OpenSsl : goal.returns-in-OpenSsl
unfolding places_of
returns-in-OpenSsl c = rw c.in-OpenSsl.is c.openssl_places.ensures

pub returns-in-Chrome : goal.returns-in-Chrome
unfolding places_of
returns-in-Chrome c = rw c.in-Chrome.is c.chrome_places.ensures
