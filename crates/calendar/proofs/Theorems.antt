-- What the calendar asks of a time, by the period in which it begins. Assumes nothing.
use Prim.Native.Nat.{ℕ, ◌-◌, ◌≤◌, ◌<◌}
use native.Mathlib.Omega.{arith}
use native.Mathlib.Decide.{dec_lt}
use mathlib.Core.Path.{◌≡◌, refl}
use mathlib.Core.Logic.{◌↔◌}
use mathlib.Core.Bool.{true, false, ◌&&◌, or-false}
use lib.Dec.{leb, ltb}
use borrow.Author.Tests.{leb-true, ltb-true, le-leb, lt-leb, le-ltb, lt-ltb}
use Rattle.laws.proofs.Tests.{and_left, and_right}
use Rattle.calendar.specs.Spans.{july2012, april2015, march2018, july2019, sep2020, ten_years, sixty_months, thirty_nine_months, eight_twenty_five_days, three_ninety_eight_days, span_valid}
use Rattle.calendar.specs.Stated.{SpanValid}

-- a time from b to e
module _ (b e : ℕ) where
  pub to_july_2012 : b < july2012 → span_valid b e ≡ (leb b e && (ltb e july2019 && leb (e - b) ten_years))
  unfolding span_valid
  to_july_2012 h = simp (lt-ltb b july2012 h, lt-leb july2012 b h, lt-leb april2015 b (omega arith), lt-leb march2018 b (omega arith), lt-leb sep2020 b (omega arith), or-false)

  pub to_april_2015 : july2012 ≤ b → b < april2015 → span_valid b e ≡ (leb b e && leb (e - b) sixty_months)
  unfolding span_valid
  to_april_2015 g h = simp (le-ltb b july2012 g, le-leb july2012 b g, lt-ltb b april2015 h, lt-leb april2015 b h, lt-leb march2018 b (omega arith), lt-leb sep2020 b (omega arith), or-false)

  pub to_march_2018 : april2015 ≤ b → b < march2018 → span_valid b e ≡ (leb b e && leb (e - b) thirty_nine_months)
  unfolding span_valid
  to_march_2018 g h = simp (le-ltb b july2012 (omega arith), le-leb july2012 b (omega arith), le-ltb b april2015 g, le-leb april2015 b g, lt-ltb b march2018 h, lt-leb march2018 b h, lt-leb sep2020 b (omega arith), or-false)

  pub to_sep_2020 : march2018 ≤ b → b < sep2020 → span_valid b e ≡ (leb b e && leb (e - b) eight_twenty_five_days)
  unfolding span_valid
  to_sep_2020 g h = simp (le-ltb b july2012 (omega arith), le-leb july2012 b (omega arith), le-ltb b april2015 (omega arith), le-leb april2015 b (omega arith), le-ltb b march2018 g, le-leb march2018 b g, lt-ltb b sep2020 h, lt-leb sep2020 b h, or-false)

  pub since_sep_2020 : sep2020 ≤ b → span_valid b e ≡ (leb b e && leb (e - b) three_ninety_eight_days)
  unfolding span_valid
  since_sep_2020 g = simp (le-ltb b july2012 (omega arith), le-leb july2012 b (omega arith), le-ltb b april2015 (omega arith), le-leb april2015 b (omega arith), le-ltb b march2018 (omega arith), le-leb march2018 b (omega arith), le-ltb b sep2020 g, le-leb sep2020 b g)

  goes_forward : span_valid b e ≡ true → b ≤ e
  unfolding span_valid
  goes_forward h = leb-true b e (and_left (leb b e) _ h)

  span_says : span_valid b e ≡ true → SpanValid b e
  span_says h = record {
    forward = goes_forward h;
    to_july_2012 = λ x. let k = and_right (leb b e) _ (rw (to_july_2012 x) at h) in (ltb-true _ _ (and_left _ _ k), leb-true _ _ (and_right (ltb e july2019) _ k));
    to_april_2015 = λ x y. leb-true _ _ (and_right (leb b e) _ (rw (to_april_2015 x y) at h));
    to_march_2018 = λ x y. leb-true _ _ (and_right (leb b e) _ (rw (to_march_2018 x y) at h));
    to_sep_2020 = λ x y. leb-true _ _ (and_right (leb b e) _ (rw (to_sep_2020 x y) at h));
    since_sep_2020 = λ x. leb-true _ _ (and_right (leb b e) _ (rw (since_sep_2020 x) at h));
  }

  says_span : SpanValid b e → span_valid b e ≡ true
  says_span s = elim (dec_lt b july2012) [ yes p ↦ one p | no p ↦ elim (dec_lt b april2015) [ yes q ↦ two (omega arith) q | no q ↦ elim (dec_lt b march2018) [ yes r ↦ three (omega arith) r | no r ↦ elim (dec_lt b sep2020) [ yes t ↦ four (omega arith) t | no t ↦ five (omega arith) ] ] ] ] where
    ahead : leb b e ≡ true
    ahead = le-leb b e s.forward

    one : b < july2012 → span_valid b e ≡ true
    one h = let (k, m) = s.to_july_2012 h in rw (to_july_2012 h, ahead, lt-ltb e july2019 k, le-leb (e - b) ten_years m) refl

    two : july2012 ≤ b → b < april2015 → span_valid b e ≡ true
    two g h = rw (to_april_2015 g h, ahead, le-leb (e - b) sixty_months (s.to_april_2015 g h)) refl

    three : april2015 ≤ b → b < march2018 → span_valid b e ≡ true
    three g h = rw (to_march_2018 g h, ahead, le-leb (e - b) thirty_nine_months (s.to_march_2018 g h)) refl

    four : march2018 ≤ b → b < sep2020 → span_valid b e ≡ true
    four g h = rw (to_sep_2020 g h, ahead, le-leb (e - b) eight_twenty_five_days (s.to_sep_2020 g h)) refl

    five : sep2020 ≤ b → span_valid b e ≡ true
    five g = rw (since_sep_2020 g, ahead, le-leb (e - b) three_ninety_eight_days (s.since_sep_2020 g)) refl

  pub span_valid_means : (span_valid b e ≡ true) ↔ SpanValid b e
  span_valid_means = (span_says, says_span)

  -- a time that ends before it begins is none
  pub backward_invalid : e < b → span_valid b e ≡ false
  unfolding span_valid
  backward_invalid h = rw (lt-leb b e h) refl
