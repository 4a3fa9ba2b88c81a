-- Chrome's calendar: how long a leaf may last, by the second in which it begins (the body of `leaf_duration_valid` in chrome.rs). Assumes nothing.
use Rattle.std.specs.Prelude.{ℕ, ◌-◌, Bool, ◌&&◌, ◌||◌, leb, ltb}

-- ---- five dates, in seconds
abbrev pub july2012 : ℕ
july2012 = 1341100800

abbrev pub april2015 : ℕ
april2015 = 1427846400

abbrev pub march2018 : ℕ
march2018 = 1519862400

abbrev pub july2019 : ℕ
july2019 = 1561939200

abbrev pub sep2020 : ℕ
sep2020 = 1598918400

-- ---- five spans, in seconds
abbrev pub ten_years : ℕ
ten_years = 315532800

abbrev pub sixty_months : ℕ
sixty_months = 157852800

abbrev pub thirty_nine_months : ℕ
thirty_nine_months = 102643200

abbrev pub eight_twenty_five_days : ℕ
eight_twenty_five_days = 71280000

abbrev pub three_ninety_eight_days : ℕ
three_ninety_eight_days = 34387200

-- from not before to not after is a time, and no longer than the calendar allows one that begins so early
unfoldable pub span_valid : ℕ → ℕ → Bool
span_valid not_before not_after =
    leb not_before not_after
    && ((ltb not_before july2012 && ltb not_after july2019 && leb (not_after - not_before) ten_years)
    || (leb july2012 not_before && ltb not_before april2015 && leb (not_after - not_before) sixty_months)
    || (leb april2015 not_before && ltb not_before march2018 && leb (not_after - not_before) thirty_nine_months)
    || (leb march2018 not_before && ltb not_before sep2020 && leb (not_after - not_before) eight_twenty_five_days)
    || (leb sep2020 not_before && leb (not_after - not_before) three_ninety_eight_days))
