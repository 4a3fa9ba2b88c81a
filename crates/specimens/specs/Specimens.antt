-- Document 01's specimens that are proved, one line each, in its order. Assumes nothing.
use Rattle.std.specs.Prelude.{ℕ, ◌+◌, ◌≡◌, List, [], ◌∷◌, true, false, length}
use Rattle.text.specs.Texts.{Text, quoted, covers}
use Rattle.patterns.specs.Address.{ip_addr_in_range}
use Rattle.patterns.specs.Patterns.{match_name, clean_name}
use Rattle.calendar.specs.Spans.{span_valid}
use Rattle.model.specs.Model.{dns, no_mark, San}
use Rattle.covering_dns.specs.declared.Covering.TheVariants.{Cleaned}
use Rattle.constraints.specs.Keeps.{check_san_constraints}

-- a SAN with one DNS name
abbrev pub san_of : Text → San
san_of name = record { mark = no_mark; names = dns name ∷ [] }

pub record Specimens : Type 0 where
  -- `*.a.com` matches a.com and x.a.com, not x.y.a.com, not .a.com
  pub star_apex : match_name (quoted "*.a.com") (quoted "a.com") ≡ true
  pub star_label : match_name (quoted "*.a.com") (quoted "x.a.com") ≡ true
  pub star_two_labels : match_name (quoted "*.a.com") (quoted "x.y.a.com") ≡ false
  pub star_empty_label : match_name (quoted "*.a.com") (quoted ".a.com") ≡ false
  -- `*.` matches nothing
  pub star_alone : (name : Text) → match_name (quoted "*.") name ≡ false
  -- from 1598918400 to 1633305600: valid; one second longer: not; from 1598918399, 34387201 long: valid
  pub days_398 : span_valid 1598918400 1633305600 ≡ true
  pub days_398_and_a_second : span_valid 1598918400 1633305601 ≡ false
  pub days_825_allowed : span_valid 1598918399 (1598918399 + 34387201) ≡ true
  -- from 1341100799 to 1561939199 valid, to 1561939200 not
  pub ends_before_july_2019 : span_valid 1341100799 1561939199 ≡ true
  pub ends_in_july_2019 : span_valid 1341100799 1561939200 ≡ false
  -- a.com covers x.a.com, not ba.com; .a.com doesn't cover a.com
  pub covers_label : covers (quoted "a.com") (quoted "x.a.com") ≡ true
  pub covers_no_part : covers (quoted "a.com") (quoted "ba.com") ≡ false
  pub dot_covers_no_apex : covers (quoted ".a.com") (quoted "a.com") ≡ false
  -- `a.com..` cleans to `a.com.`
  pub one_dot_off : clean_name (quoted "a.com..") ≡ quoted "a.com."
  -- in Chrome's SAN constraints names are cleaned just twice: under the permitted name a.com, `a.com..` passes (once would not do) and `a.com...` fails (three times would do)
  pub two_dots_pass : check_san_constraints Cleaned (dns (quoted "a.com") ∷ []) [] (san_of (quoted "a.com..")) ≡ true
  pub three_dots_fail : check_san_constraints Cleaned (dns (quoted "a.com") ∷ []) [] (san_of (quoted "a.com...")) ≡ false
  -- 10.0.0.0/255.0.0.0 holds 10.1.2.3; an 8-byte range never holds 16 bytes
  pub range_holds : ip_addr_in_range (10 ∷ 0 ∷ 0 ∷ 0 ∷ 255 ∷ 0 ∷ 0 ∷ 0 ∷ []) (10 ∷ 1 ∷ 2 ∷ 3 ∷ []) ≡ true
  pub range_of_eight : (range address : List ℕ) → length range ≡ 8 → length address ≡ 16 → ip_addr_in_range range address ≡ false
