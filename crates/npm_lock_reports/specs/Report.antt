-- What of a report counts for the status.
use Rattle.std.specs.Prelude.{◌≡◌, [], true}
use Rattle.npm_lock_reports.specs.declared.report.Report.{Report}

-- Nothing is not checked that counts. It counts with `--strict`: a dependency that is not checked, and what was not looked at.
abbrev pub IsChecked : Report → Type 0
IsChecked report = report.strict ≡ true → (report.problems.unchecked.items ≡ []) × (report.unread.items ≡ [])

-- A report with nothing in it that counts for the status. `npm ci` installs a lock file whose specs differ from those of
-- the manifest, if its packages satisfy the manifest. So mismatches count only with `--exact`.
pub record IsClean (report : Report) : Type 0 where
  pub mismatches : report.exact ≡ true → report.mismatches.items ≡ []
  pub problems : report.problems.list.items ≡ []
  pub sources : report.sources.items ≡ []
  pub needed : report.needed.items ≡ []
  pub hits : report.hits ≡ 0
  pub checked : IsChecked report
