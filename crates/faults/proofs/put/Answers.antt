-- An entry where the test holds. Assumes nothing.
use Rattle.faults.proofs.Laws.{put_none, put_one}
use Rattle.faults.proofs.put.Goals as goal

pub returns-then-broken : goal.returns-then-broken
returns-then-broken c = put_one _ c.if-broken.true c.put_entry.ensures

pub returns : goal.returns
returns c = put_none _ _ c.if-broken.false
