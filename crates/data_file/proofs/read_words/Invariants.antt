use Rattle.std.proofs.Common.{◌≤◌, ◌≡◌, length, drop}
use Rattle.data_file.proofs.read_words.Given as goal

abbrev pub invariant-loop-i : goal.invariant-loop-i
invariant-loop-i g l = record { room : l.n ≤ length l.initial.words; stays : drop l.n l.words ≡ drop l.n l.initial.words }
