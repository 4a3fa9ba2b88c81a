-- The calendar said period by period; that its test means this is proved. Assumes nothing.
use Rattle.std.specs.Prelude.{ℕ, ◌-◌, ◌≤◌, ◌<◌}
use Rattle.calendar.specs.Spans.{july2012, april2015, march2018, july2019, sep2020, ten_years, sixty_months, thirty_nine_months, eight_twenty_five_days, three_ninety_eight_days}

-- what the calendar asks of a time from b to e: that it is one, and by the period in which it begins how long it is at most
pub record SpanValid (b e : ℕ) : Type 0 where
  pub forward : b ≤ e
  pub to_july_2012 : b < july2012 → (e < july2019) × (e - b ≤ ten_years)
  pub to_april_2015 : july2012 ≤ b → b < april2015 → e - b ≤ sixty_months
  pub to_march_2018 : april2015 ≤ b → b < march2018 → e - b ≤ thirty_nine_months
  pub to_sep_2020 : march2018 ≤ b → b < sep2020 → e - b ≤ eight_twenty_five_days
  pub since_sep_2020 : sep2020 ≤ b → e - b ≤ three_ninety_eight_days
