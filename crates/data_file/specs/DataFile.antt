-- What eight bytes of a data file are as a number, and what a read may do. Assumes nothing.
use Rattle.std.specs.Prelude.{ℕ, ◌+◌, ◌*◌, ◌≤◌, ◌<◌, ◌≡◌, List, [], ◌∷◌, length, drop, Result, Ok, Err}
use Rattle.data_file.specs.declared.Ended.{Ended}
use Rattle.data_file.specs.declared.Ended.TheVariants.{Nothing, Less}
use Rattle.data_file.specs.declared.Size.{Size}

-- bytes as a number, the low byte first
unfoldable pub word_of : List ℕ → ℕ
word_of [] = 0
word_of (b ∷ bs) = b + 256 * word_of bs

-- n values were asked for, to stand at the start of a lent list
pub record Filled (n : ℕ) (old new : List ℕ) (got : Result (Unit {0}) Ended) : Type 0 where
  -- what stands behind them stays
  pub rest_stays : drop n new ≡ drop n old
  -- where there is no room for them nothing is read
  pub no_room : length old < n → (new ≡ old) × (got ≡ Err Less)
  -- none is all there is to ask for
  pub none_asked : n ≡ 0 → got ≡ Ok tt

-- a lent list begins with n values that were read, zeros behind them included; what stands behind the n stays
abbrev pub Begins : ℕ → List ℕ → List ℕ → Type 0
Begins n old new = (n ≤ length old) × (drop n new ≡ drop n old)

-- a bundle that was read has room in what is lent; where the file had ended nothing changes
abbrev pub BundleRead : List ℕ → List ℕ → List ℕ → List ℕ → Result Size Ended → Type 0
BundleRead words words' bytes bytes' (Ok size) = Begins size.words words words' × Begins size.bytes bytes bytes'
BundleRead words words' bytes bytes' (Err Nothing) = (words' ≡ words) × (bytes' ≡ bytes)
BundleRead words words' bytes bytes' (Err Less) = Unit {0}
