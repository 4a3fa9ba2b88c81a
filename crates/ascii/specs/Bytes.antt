-- Bytes as characters: lowering and classes (document 01, "Own text rules"). Assumes nothing.
use Rattle.std.specs.Prelude.{ℕ, ◌+◌, ◌*◌, List, Bool, ◌&&◌, ◌||◌, leb, eqb}
use Rattle.laws.specs.Lists.{pick, rows}

-- A to Z (bytes 65 to 90)
abbrev pub is_upper : ℕ → Bool
is_upper x = leb 65 x && leb x 90

-- A to Z, or a to z (bytes 97 to 122)
abbrev pub is_letter : ℕ → Bool
is_letter x = is_upper x || (leb 97 x && leb x 122)

-- 0 to 9 (bytes 48 to 57)
abbrev pub is_digit : ℕ → Bool
is_digit x = leb 48 x && leb x 57

-- hyphen (byte 45) or underscore (byte 95)
abbrev pub is_joiner : ℕ → Bool
is_joiner x = eqb x 45 || eqb x 95

-- byte 46
abbrev pub is_dot : ℕ → Bool
is_dot x = eqb x 46

-- byte 42
abbrev pub is_star : ℕ → Bool
is_star x = eqb x 42

-- byte 32
abbrev pub is_space : ℕ → Bool
is_space x = eqb x 32

-- what a host name is made of: letter, digit, hyphen, underscore or dot
abbrev pub is_host_byte : ℕ → Bool
is_host_byte x = is_letter x || is_digit x || is_joiner x || is_dot x

-- over 127: no ASCII character
abbrev pub is_high : ℕ → Bool
is_high x = leb 128 x

-- lowering changes A to Z only
unfoldable pub lower_byte : ℕ → ℕ
lower_byte x = pick (is_upper x) (x + 32) x

-- the classes by their numbers; any other byte has class 0
abbrev pub letter : ℕ
letter = 1

abbrev pub digit : ℕ
digit = 2

abbrev pub joiner : ℕ
joiner = 3

abbrev pub dot : ℕ
dot = 4

abbrev pub star : ℕ
star = 5

abbrev pub space : ℕ
space = 6

abbrev pub high : ℕ
high = 7

-- the class of a byte
unfoldable pub class_of : ℕ → ℕ
class_of x =
    pick (is_high x) high
    (pick (is_letter x) letter
    (pick (is_digit x) digit
    (pick (is_joiner x) joiner
    (pick (is_dot x) dot
    (pick (is_star x) star
    (pick (is_space x) space 0))))))

-- what the table holds for a byte: its class and its lower-case form in one number
unfoldable pub entry_of : ℕ → ℕ
entry_of x = class_of x * 256 + lower_byte x

-- the table: what it holds for each byte in turn
unfoldable pub whole_table : List ℕ
whole_table = rows entry_of 0 256
