-- Each turn writes into what the turns before it left free. Assumes nothing.
use Prim.Native.Nat.{◌+◌, ◌-◌, ◌≤◌}
use Rattle.faults.proofs.Laws.{SoFar}
use Rattle.writers.proofs.write_turns.Given as goal

abbrev pub invariant-loop-i : goal.invariant-loop-i
invariant-loop-i g l = (l.i - l.initial.i ≤ l.to - l.initial.i) × SoFar (λ k. g.entries (l.initial.i + k)) (l.i - l.initial.i) l.initial.report l.report l.tally
