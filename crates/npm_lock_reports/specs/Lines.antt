-- The lines of a report: one for each thing that is found, and none is divided.
use Rattle.std.specs.Prelude.{◌==◌, ◌+◌, ℕ, List, Bool, count_by, if◌then◌else◌, length}
use Rattle.npm_advisories.specs.Audit.{FoundValue}
use Rattle.npm_lock_reports.specs.declared.report.Report.{Report}

abbrev pub is_newline : (byte : ℕ) → Bool
is_newline byte = byte == 10

-- how many lines a text has, if each ends with a newline byte
abbrev pub line_count : (text : List ℕ) → ℕ
line_count text = count_by is_newline text

-- how many things are listed: the dependencies that are not checked, and what was not looked at
abbrev pub listed_count : Report → ℕ
listed_count report =
    if report.listed then length report.problems.unchecked.items + length report.unread.items else 0

-- how many things have a line: each mismatch, each problem, each package that is hit, each suspicious source, each dependency that is
-- needed and left out, and what is listed
abbrev pub thing_count : Report → (found : List FoundValue) → ℕ
thing_count report found =
    length report.mismatches.items + length report.problems.list.items + length found + length report.sources.items
    + length report.needed.items + listed_count report
