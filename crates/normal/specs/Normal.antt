-- The normal form of a text (document 01, "Own text rules", `normalize_string`). Assumes nothing.
use Rattle.std.specs.Prelude.{[], ◌∷◌, Bool, false, ◌&&◌}
use Rattle.laws.specs.Lists.{all, eq_list, pick}
use Rattle.ascii.specs.Bytes.{is_space}
use Rattle.text.specs.Texts.{Text, lowered}

-- the spaces (byte 32) at the front off
unfoldable pub drop_front : Text → Text
drop_front [] = []
drop_front (x ∷ s) = pick (is_space x) (drop_front s) (x ∷ s)

-- the spaces at the back off: nothing stays of spaces alone
unfoldable pub drop_back : Text → Text
drop_back [] = []
drop_back (x ∷ s) = pick (all is_space (x ∷ s)) [] (x ∷ drop_back s)

-- the text begins with a space
abbrev pub space_first : Text → Bool
space_first [] = false
space_first (x ∷ s) = is_space x

-- a run of spaces becomes one: a space before a space goes
unfoldable pub one_space : Text → Text
one_space [] = []
one_space (x ∷ s) = pick (is_space x && space_first s) (one_space s) (x ∷ one_space s)

-- lower, drop outer spaces, runs of spaces become one
unfoldable pub normalize_string : Text → Text
normalize_string s = one_space (drop_back (drop_front (lowered s)))

-- two texts have equal normal forms
unfoldable pub same_normal : Text → Text → Bool
same_normal a b = eq_list (normalize_string a) (normalize_string b)
