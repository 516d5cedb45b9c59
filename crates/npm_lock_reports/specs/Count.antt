-- How many packages `--omit` leaves out.
use Rattle.std.specs.Prelude.{◌&&◌, ◌||◌, ◌+◌, ℕ, not, Option, None, Some, codes, if◌then◌else◌}
use Rattle.std.specs.Prelude.{option_and_then}
use Rattle.std.specs.Option.{option_map_or}
use Rattle.serde_json.specs.Data.{Data, Members, member, no_members}
use Rattle.serde_json.specs.Find.{as_object, get}
use Rattle.npm_packages.specs.Packages.{is_link}
use Rattle.npm_lock.specs.Findings.{counted}
use Rattle.npm_lock_reports.specs.Omissions.{is_omitted}
use Rattle.npm_lock_reports.specs.declared.omissions.Omissions.{Omissions}

-- the number of packages that are left out; a link is no package
abbrev pub omitted_in : Omissions → (lock : Data) → Members → ℕ
omitted_in omissions lock no_members = 0
omitted_in omissions lock (member folder entry others) = if not (is_link entry) && is_omitted omissions lock folder entry
    then 1 + omitted_in omissions lock others else omitted_in omissions lock others

-- of a lock file, if a group is left out
abbrev pub count_of : Omissions → (lock : Data) → Option ℕ
count_of omissions lock = if omissions.dev || omissions.optional
    then Some (option_map_or (λ members. counted (omitted_in omissions lock members))
    (option_and_then as_object (get (codes "packages") lock)) 0)
    else None
