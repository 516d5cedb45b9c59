-- What the definitions say of some exceptions.
use Rattle.std.proofs.Common.{◌≡◌, ◌∷◌, [], List, ℕ, Option, None, Some, codes, false, refl, true}
use Rattle.serde_json.specs.Data.{Data, no_items, string}
use Rattle.toml_datetime.specs.declared.datetime.Date.{Date}
use Rattle.npm_lock_reports.specs.AdvisoryExceptions.{ExceptionValue}
use Rattle.npm_advisories.specs.Advisories.{AboutValue}
use Rattle.npm_advisories.specs.declared.severity.Severity.TheVariants.{High}
use Rattle.npm_advisories.specs.Audit.{FoundValue}
use Rattle.npm_lock_reports.specs.Excepted.{excepted_in}
use Rattle.npm_lock_reports.specs.Exceptions.{ExceptionsValue, left_in}

-- an advisory with this `id`
abbrev known : (id : Data) → AboutValue
known id = record { id = id; severity = High; title = None; url = None; aliases = no_items }

-- ---- what is left

abbrev today : Date
today = record { year = 2026; month = 11; day = 28 }

abbrev last : Date
last = record { year = 2027; month = 3; day = 1 }

abbrev over : Date
over = record { year = 2026; month = 11; day = 27 }

abbrev excepting : (id name : List ℕ) → (until : Option Date) → ExceptionValue
excepting id name until = record { id = id; name = name; reason = codes "only used to build"; until = until }

abbrev on_that_day : List ExceptionValue → ExceptionsValue
on_that_day list = record { list = list; today = today }

abbrev one : AboutValue
one = known (string (codes "GHSA-1"))

abbrev two : AboutValue
two = known (string (codes "GHSA-2"))

abbrev hit_by : List AboutValue → FoundValue
hit_by hits = record {
  folder = codes "node_modules/lodash";
  name = codes "lodash";
  version = Some (codes "4.17.20");
  hits = hits;
  least = None;
  admitted = None;
}

pub an_excepted_package : left_in (on_that_day (excepting (codes "GHSA-1") (codes "lodash") (Some last) ∷ [])) (hit_by (one ∷ []) ∷ []) ≡ []
an_excepted_package = refl

-- the other advisory counts
pub one_of_two : left_in (on_that_day (excepting (codes "GHSA-1") (codes "lodash") None ∷ [])) (hit_by (one ∷ two ∷ []) ∷ [])
    ≡ hit_by (two ∷ []) ∷ []
one_of_two = refl

pub another_package : left_in (on_that_day (excepting (codes "GHSA-1") (codes "lodash.merge") None ∷ [])) (hit_by (one ∷ []) ∷ [])
    ≡ hit_by (one ∷ []) ∷ []
another_package = refl

pub another_advisory : left_in (on_that_day (excepting (codes "GHSA-2") (codes "lodash") None ∷ [])) (hit_by (one ∷ []) ∷ [])
    ≡ hit_by (one ∷ []) ∷ []
another_advisory = refl

-- one that is over applies no more
pub a_day_late : left_in (on_that_day (excepting (codes "GHSA-1") (codes "lodash") (Some over) ∷ [])) (hit_by (one ∷ []) ∷ [])
    ≡ hit_by (one ∷ []) ∷ []
a_day_late = refl

pub on_the_last_day : left_in (on_that_day (excepting (codes "GHSA-1") (codes "lodash") (Some today) ∷ [])) (hit_by (one ∷ []) ∷ []) ≡ []
on_the_last_day = refl

-- the first exception that applies is told
pub the_place : excepted_in (on_that_day (excepting (codes "GHSA-1") (codes "lodash") (Some over)
    ∷ excepting (codes "GHSA-1") (codes "lodash") (Some last) ∷ excepting (codes "GHSA-1") (codes "lodash") None ∷ [])) (hit_by (one ∷ two ∷ []) ∷ [])
    ≡ record { folder = codes "node_modules/lodash"; name = codes "lodash"; version = Some (codes "4.17.20"); place = 1 } ∷ []
the_place = refl
