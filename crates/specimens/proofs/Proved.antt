-- Every specimen of the table holds. Assumes nothing.
use native.Mathlib.Omega.{arith}
use mathlib.Core.Path.{◌≡◌, refl}
use mathlib.Core.Bool.{false}
use Rattle.laws.specs.Lists.{any, all, each, rows, run}
use Rattle.ascii.specs.Bytes.{lower_byte}
use Rattle.text.specs.Texts.{Text, quoted, lowered, starts_with, ends_with, covers}
use Rattle.patterns.specs.Address.{masked_equal, agrees_at, in_range, ip_addr_in_range}
use Rattle.patterns.specs.Patterns.{match_name, one_label, final_dot_off, clean_name, permit_name}
use Rattle.calendar.specs.Spans.{span_valid}
use Rattle.patterns.proofs.Ranges.{other_lengths}
use Rattle.sans.specs.Sans.{is_kind, dns_and}
use Rattle.covering_dns.specs.Covers.{dns_covers, over_dns}
use Rattle.constraints.specs.Match.{allowed, check_dns_name_constraints, asked_name, nc_match}
use Rattle.constraints.specs.Keeps.{check_san_constraints}
use Rattle.specimens.specs.Specimens.{Specimens}

star_alone : (name : Text) → match_name (quoted "*.") name ≡ false
unfolding match_name starts_with each
star_alone name = refl

pub specimens : Specimens
unfolding match_name one_label starts_with ends_with covers clean_name final_dot_off permit_name lowered lower_byte is_kind dns_and dns_covers over_dns allowed check_dns_name_constraints asked_name nc_match check_san_constraints ip_addr_in_range in_range agrees_at masked_equal span_valid any all each rows run
specimens = record {
  star_apex = refl;
  star_label = refl;
  star_two_labels = refl;
  star_empty_label = refl;
  star_alone = star_alone;
  days_398 = refl;
  days_398_and_a_second = refl;
  days_825_allowed = refl;
  ends_before_july_2019 = refl;
  ends_in_july_2019 = refl;
  covers_label = refl;
  covers_no_part = refl;
  dot_covers_no_apex = refl;
  one_dot_off = refl;
  two_dots_pass = refl;
  three_dots_fail = refl;
  range_holds = refl;
  range_of_eight = λ range address e f. rw (other_lengths range address 4 (λ g h. omega arith), other_lengths range address 16 (λ g h. omega arith)) refl;
}
