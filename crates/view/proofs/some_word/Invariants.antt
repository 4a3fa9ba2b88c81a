use Rattle.std.proofs.Common.{◌-◌}
use Rattle.view.specs.Shown.{some_word}
use Rattle.view.proofs.Laws.{Left}
use Rattle.view.proofs.some_word.Given as goal

abbrev pub invariant-loop-v : goal.invariant-loop-v
invariant-loop-v l = Left l.fn.words l.fn.s l.fn.r.to l.fn.j l.fn.x (some_word l.fn.words l.fn.s l.fn.r l.fn.j l.fn.x) l.v

abbrev pub decreases-loop-v : goal.decreases-loop-v
decreases-loop-v l = l.v.rows.range.to - l.v.rows.range.from
