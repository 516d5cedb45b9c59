-- The day of a time.
use Rattle.std.specs.Prelude.{◌≡◌, ◌/◌, ℕ, pos}
use Rattle.jiff_core.specs.Date.{epoch_day}
use Rattle.jiff_core.specs.declared.civil.date.Date as Civil
use Rattle.toml_datetime.specs.declared.datetime.Date.{Date}

-- The day in UTC at so many seconds after 1970 began: the day with this number, where 1970-01-01 has the number 0. A day has 86,400
-- seconds
pub record IsDayAt (seconds : ℕ) (day : Date) : Type 0 where
  pub civil : Civil.Date
  pub number : epoch_day civil ≡ pos (seconds / 86400)
  pub year : civil.year ≡ pos day.year
  pub month : day.month ≡ civil.month
  pub day_of_month : day.day ≡ civil.day
