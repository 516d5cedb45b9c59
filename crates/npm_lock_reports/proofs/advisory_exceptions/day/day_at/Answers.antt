-- The numbers that were cast are the same, since they fit.
use Rattle.std.proofs.Common.{◌≡◌, ◌∙◌, ◌/◌, ℤ, FitsSigned, arith, pos, refl, rules, w16, w64}
use Rattle.std.proofs.lemmas.Int.{ints, to_z-of_z}
use Rattle.jiff_core.specs.Date.{epoch_day}
use Rattle.npm_lock_reports.proofs.Years.{same_year}
use Rattle.npm_lock_reports.proofs.advisory_exceptions.day.day_at.Goals as goal

pub returns : goal.returns
returns c =
    let day = c.in-Ok-from_unix_epoch_day.day in
    let fits : FitsSigned w64 c.in-Ok.number = rw c.in-Ok.ensures.1 c.in-Ok.ensures.0 in
    let short : FitsSigned w16 day.year = search rules in
    record {
      civil = day;
      number = (simp to_z-of_z at c.in-Ok-from_unix_epoch_day.ensures.value) ∙ c.in-Ok.ensures.1;
      year = let told = simp to_z-of_z at c.in-Ok-try_from.ensures in same_year day.year c.in-Ok-try_from.year told.0 told.1;
      month = refl;
      day_of_month = refl;
    }
