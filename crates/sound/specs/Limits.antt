-- How large a bundle may be, and its edition (document 01, "What the judge says"). Assumes nothing.
use Rattle.std.specs.Prelude.{ℕ, List, Bool, ◌||◌, ltb, length}

abbrev pub most_words : ℕ
most_words = 8192

abbrev pub most_bytes : ℕ
most_bytes = 65536

abbrev pub most_certs : ℕ
most_certs = 16

-- the edition that is read
abbrev pub edition : ℕ
edition = 1

-- words fewer than the header, or too many words or bytes
unfoldable pub too_large : ℕ → List ℕ → List ℕ → Bool
too_large header w b = ltb (length w) header || ltb most_words (length w) || ltb most_bytes (length b)
