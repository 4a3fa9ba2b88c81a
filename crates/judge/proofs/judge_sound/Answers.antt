use native.Mathlib.Omega.{arith}
use Rattle.judge.proofs.Laws.{judging}
use Rattle.judge.proofs.judge_sound.Goals as goal

pub overflow_cast-n : goal.overflow_cast-n
overflow_cast-n c = omega (arith, c.count-n.ensures, c.requires)

pub returns : goal.returns
returns c = judging _ _ _ c.count-n.ensures c.write_report.ensures c.from.ensures
