-- Texts are lists of bytes: lowering, beginnings, ends, covering (document 01, "Own text rules"). Assumes nothing.
use Rattle.std.specs.Prelude.{ℕ, ◌-◌, List, [], ◌∷◌, ◌++◌, map, Bool, ◌&&◌, ◌||◌, leb, length, take, drop}
use Prim.Native.Char.{code}
use Prim.Native.String.{String}
use Rattle.laws.specs.Lists.{eq_list, is_empty}
use Rattle.ascii.specs.Bytes.{lower_byte}
use Rattle.text.specs.declared.Letters.{Letters}
use Rattle.text.specs.declared.Letters.TheVariants.{AsGiven, Lowered}

-- a text is its bytes, in order
abbrev pub Text : Type 0
Text = List ℕ

-- a text as it is written between quotes
abbrev pub quoted : String → Text
quoted String.[] = []
quoted (String.◌∷◌ c s) = code c ∷ quoted s

-- each byte lowered
unfoldable pub lowered : Text → Text
lowered s = map lower_byte s

-- a byte as it stands, or lowered
abbrev pub taken_byte : Letters → ℕ → ℕ
taken_byte AsGiven x = x
taken_byte Lowered x = lower_byte x

-- a text as it stands, or lowered
unfoldable pub taken : Letters → Text → Text
taken letters s = map (taken_byte letters) s

-- s begins with r
unfoldable pub starts_with : Text → Text → Bool
starts_with s r = leb (length r) (length s) && eq_list r (take (length r) s)

-- s ends with r
unfoldable pub ends_with : Text → Text → Bool
ends_with s r = leb (length r) (length s) && eq_list r (drop (length s - length r) s)

-- the constraint c covers the name n: c is empty; or n ends with c, and either the two are equal, or c begins with a dot, or a dot stands before that end
unfoldable pub covers : Text → Text → Bool
covers c n =
    is_empty c
    || (ends_with n c && (eq_list c n || starts_with c (quoted ".") || ends_with n (quoted "." ++ c)))

-- OpenSSL's covering: both sides are lowered first
unfoldable pub match_dns_name : Text → Text → Bool
match_dns_name c n = covers (lowered c) (lowered n)
