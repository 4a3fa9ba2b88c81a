use Rattle.judge.proofs.Laws.{both_few_enough}
use Rattle.judge.proofs.chrome.Goals as goal

pub judge_checked-requires : goal.judge_checked-requires
judge_checked-requires c = both_few_enough _ _ _ _ c.check_both.ensures

pub returns : goal.returns
returns c = record {
  checked = c.check_both.result;
  verdict = c.check_both.ensures;
  outcome = c.judge_checked.ensures;
}
