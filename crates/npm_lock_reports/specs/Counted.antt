-- The hits of a lock file that count, and what is excepted of them.
use Rattle.std.specs.Prelude.{List, [], Option, None, Some, map}
use Rattle.serde_json.specs.Data.{Data}
use Rattle.npm_advisories.specs.Audit.{FoundValue, found_value}
use Rattle.npm_lock_reports.specs.LeftOut.{hits_kept}
use Rattle.npm_lock_reports.specs.declared.omissions.Omissions.{Omissions}
use Rattle.npm_lock_reports.specs.Excepted.{ExceptedValue, excepted_in, excepted_value}
use Rattle.npm_lock_reports.specs.Exceptions.{ExceptionsValue, left_in}
use Rattle.npm_lock_reports.specs.declared.hits.CountedHits.{CountedHits}

-- the packages that are hit, each with the advisories that count, and what is excepted of them
pub record CountedValue : Type 0 where
  pub found : List FoundValue
  pub excepted : List ExceptedValue

-- what a contract sees of it
abbrev pub counted_value : CountedHits → CountedValue
counted_value counted =
    record { found = map found_value counted.found.items; excepted = map excepted_value counted.excepted.items }

-- what is left of these hits without those that are excepted, and these
abbrev pub without_excepted : ExceptionsValue → List FoundValue → CountedValue
without_excepted exceptions found = record { found = left_in exceptions found; excepted = excepted_in exceptions found }

-- the same, if there are exceptions
abbrev pub with_exceptions : Option ExceptionsValue → List FoundValue → CountedValue
with_exceptions None found = record { found = found; excepted = [] }
with_exceptions (Some exceptions) found = without_excepted exceptions found

-- of all hits of a lock file: those of packages that are left out are neither counted nor excepted
abbrev pub counted_hits : Omissions → Option ExceptionsValue → (lock : Data) → List FoundValue → CountedValue
counted_hits omissions exceptions lock found = with_exceptions exceptions (hits_kept omissions lock found)
