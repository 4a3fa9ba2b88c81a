-- What each turn writes. Written by tools/reports.py. Assumes nothing.
use Rattle.faults.specs.Report.{certificate}
use Rattle.faults.specs.Index.{asked}
use Rattle.rules.specs.Rules.{broken_by}
use Rattle.writers.proofs.write_each.Given as goal

abbrev pub ghost-write_turns : goal.ghost-write_turns
ghost-write_turns a = λ k. asked (broken_by a.write.0.now) a.write.1.now.0 (certificate k)
