-- What each turn writes. Written by tools/reports.py. Assumes nothing.
use Rattle.faults.specs.Index.{entries_at}
use Rattle.policies.specs.Tables.{places_of}
use Rattle.rules.specs.Rules.{broken_by}
use Rattle.writers.proofs.write_rules.Given as goal

abbrev pub ghost-write_turns : goal.ghost-write_turns
ghost-write_turns a = λ k. entries_at (broken_by a.write.0.now) (places_of a.write.0.now.policy k) k a.write.1.now
