-- Each policy has its own. Written by tools/reports.py. Assumes nothing.
use Rattle.rules.proofs.Case.constraints_hold.Goals as goal

pub returns-in-OpenSsl : goal.returns-in-OpenSsl
returns-in-OpenSsl c = rw c.in-OpenSsl.is c.check_name_constraints.ensures

pub returns-in-Chrome : goal.returns-in-Chrome
returns-in-Chrome c = rw c.in-Chrome.is c.check_name_constraints-in-Chrome.ensures
