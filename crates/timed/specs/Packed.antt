-- An answer as one number, for a program that times and compares. Assumes nothing.
use Rattle.std.specs.Prelude.{Ok, Err, ℕ, ◌+◌, ◌*◌, ◌%◌}
use Rattle.sound.specs.declared.Place.{Place}
use Rattle.sound.specs.declared.Place.TheVariants.{Nothing, Word, Certificate, Pair}
use Rattle.sound.specs.Answer.{Checked}

-- the number times 2^16 plus the word; a refused bundle has no other place than a word
abbrev pub packed_at : ℕ → Place → ℕ
packed_at n Nothing = 1
packed_at n (Word p) = n % 16 * 65536 + p % 65536
packed_at n (Certificate i) = 1
packed_at n (Pair i j) = 1

-- 0 if sound
abbrev pub packed : Checked → ℕ
packed (Ok x) = 0
packed (Err r) = packed_at r.number r.place
