-- Host names: cleaning, wildcard patterns, covering by a cleaned constraint (document 01, "Own text rules", and the bodies of common.rs and chrome.rs). Assumes nothing.
use Rattle.std.specs.Prelude.{◌-◌, ◌≡◌, Bool, not, ◌&&◌, ◌||◌, ltb, length, take, drop}
use Rattle.laws.specs.Lists.{any, all, eq_list, is_empty, pick}
use Rattle.ascii.specs.Bytes.{is_dot, is_star, is_host_byte}
use Rattle.text.specs.Texts.{Text, quoted, lowered, starts_with, ends_with, covers}

-- one label stands in the name n before the end t: n is longer, ends with t, and has no dot before it
unfoldable pub one_label : Text → Text → Bool
one_label t n = ltb (length t) (length n) && ends_with n t && not (any is_dot (take (length n - length t) n))

-- the pattern p matches the name n: `*.a.com` matches a.com and one label under it, and any other pattern only itself
unfoldable pub match_name : Text → Text → Bool
match_name p n =
    pick (starts_with p (quoted "*."))
    (ltb 2 (length p) && (eq_list (drop 2 p) n || one_label (drop 1 p) n))
    (eq_list p n)

-- one final dot off, if there is one
unfoldable pub final_dot_off : Text → Text
final_dot_off s = pick (ends_with s (quoted ".")) (take (length s - 1) s) s

-- lowered, and one final dot off
unfoldable pub clean_name : Text → Text
clean_name s = final_dot_off (lowered s)

-- r is the part of s without one final dot, and once lowered the clean name
pub record Cleaned (s r : Text) : Type 0 where
  pub part : r ≡ final_dot_off s
  pub clean : lowered r ≡ clean_name s

-- Chrome's covering: the constraint is cleaned, the name taken as given
unfoldable pub permit_name : Text → Text → Bool
permit_name c n = covers (clean_name c) n

-- not empty, and only letters, digits, hyphens, underscores and dots
unfoldable pub host_text : Text → Bool
host_text s = not (is_empty s) && all is_host_byte s

-- such a text; or `*.` and then such a text that holds a dot
unfoldable pub check_valid_pattern : Text → Bool
check_valid_pattern s = host_text s || (starts_with s (quoted "*.") && host_text (drop 2 s) && any is_dot (drop 2 s))

-- cleaned, a DNS constraint is not empty, ends with no dot and holds no star
unfoldable pub valid_name_constraint : Text → Bool
valid_name_constraint s = not (is_empty (clean_name s)) && not (ends_with (clean_name s) (quoted ".")) && not (any is_star (clean_name s))
