use native.Mathlib.Omega.{arith}
use Rattle.table.proofs.Laws.{clip_all, clip_some}
use Rattle.table.proofs.clip.Goals as goal

pub returns-then-rows-first : goal.returns-then-rows-first
returns-then-rows-first c = clip_all _ _ _ (omega arith)

pub returns-then-rows-first-2 : goal.returns-then-rows-first-2
returns-then-rows-first-2 c = clip_all _ _ _ c.if-rows-first-2.true

pub returns : goal.returns
returns c = clip_some _ _ _ (omega arith)
