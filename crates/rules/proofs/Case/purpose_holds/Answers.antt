-- Each policy has its own. Written by tools/reports.py. Assumes nothing.
use Rattle.rules.proofs.Case.purpose_holds.Goals as goal

pub returns-in-OpenSsl : goal.returns-in-OpenSsl
returns-in-OpenSsl c = rw c.in-OpenSsl.is c.check_purpose.ensures

pub returns-in-Chrome : goal.returns-in-Chrome
returns-in-Chrome c = rw c.in-Chrome.is c.extended_key_usage_valid.ensures
