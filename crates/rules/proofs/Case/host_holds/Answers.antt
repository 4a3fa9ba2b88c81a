-- Each policy has its own. Written by tools/reports.py. Assumes nothing.
use Rattle.rules.proofs.Case.host_holds.Goals as goal

pub returns-in-OpenSsl : goal.returns-in-OpenSsl
returns-in-OpenSsl c = rw c.in-OpenSsl.is c.host_named.ensures

pub returns-in-Chrome : goal.returns-in-Chrome
returns-in-Chrome c = rw c.in-Chrome.is c.host_named-in-Chrome.ensures
