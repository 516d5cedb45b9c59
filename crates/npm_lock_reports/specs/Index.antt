-- Exceptions by the names of packages and the ids of advisories.
use Rattle.std.specs.Prelude.{◌≡◌, ℕ, List, Option, map, option_and_then}
use Rattle.std.specs.BTreeMap.{get_by, get_by_text}
use Rattle.std.specs.Char.{to_ascii_lowercase}
use Rattle.std.specs.Cmp.Lexicographic.{slice_cmp}
use Rattle.std.specs.Ordering.{nat_cmp}
use Rattle.toml_datetime.specs.declared.datetime.Date.{Date}
use Rattle.npm_lock_reports.specs.AdvisoryExceptions.{ExceptionValue}
use Rattle.npm_lock_reports.specs.Places.{place_of}
use Rattle.npm_lock_reports.specs.declared.advisory_exceptions.index.ExceptionIndex.{ExceptionIndex}

-- the place that the index has for a package and an id
abbrev pub place_at : ExceptionIndex → (name id : List ℕ) → Option ℕ
place_at index name id = option_and_then (λ ids. get_by_text ids (map to_ascii_lowercase id))
    (get_by (λ k. slice_cmp nat_cmp name k.now) index.by_name)

-- the index has the places of the exceptions of this list that count on this day
abbrev pub IsIndexOf : (today : Date) → List ExceptionValue → ExceptionIndex → Type 0
IsIndexOf today list index = (name id : List ℕ) → place_at index name id ≡ place_of today list name id
