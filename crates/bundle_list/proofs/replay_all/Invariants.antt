use Rattle.std.proofs.Common.{◌+◌, ◌≤◌}
use Rattle.bundle_list.proofs.replay_all.Given as goal

abbrev pub invariant-loop-index : goal.invariant-loop-index
invariant-loop-index g l = l.agreed + l.differed ≤ l.index
