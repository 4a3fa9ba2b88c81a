use Rattle.laws.proofs.Tests.{and_then, and_stop}
use Rattle.issuing.specs.Issuing.{likely_issued}
use Rattle.issuing.proofs.likely_issued.Goals as goal

pub returns-then-same_names : goal.returns-then-same_names
unfolding likely_issued
returns-then-same_names c = and_then c.same_names.ensures c.if-same_names.true c.check_auth_key_id.ensures

pub returns : goal.returns
unfolding likely_issued
returns c = and_stop c.same_names.ensures _ c.if-same_names.false
