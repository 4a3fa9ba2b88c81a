-- What each turn writes. Written by tools/reports.py. Assumes nothing.
use Rattle.faults.specs.Index.{row}
use Rattle.rules.specs.Rules.{broken_by}
use Rattle.writers.proofs.write_pairs.Given as goal

abbrev pub ghost-write_turns : goal.ghost-write_turns
ghost-write_turns a = λ k. row (broken_by a.write.0.now) a.write.1.now.0 k k
