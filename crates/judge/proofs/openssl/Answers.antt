use Rattle.judge.proofs.Laws.{few_enough}
use Rattle.judge.proofs.openssl.Goals as goal

pub judge_checked-requires : goal.judge_checked-requires
judge_checked-requires c = few_enough _ _ c.check_chain.ensures

pub returns : goal.returns
returns c = record {
  checked = c.check_chain.result;
  verdict = c.check_chain.ensures;
  outcome = c.judge_checked.ensures;
}
