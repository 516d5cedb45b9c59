-- What is excepted.
use Rattle.std.specs.Prelude.{ℕ, List, Option, None, map, option_map, string_bytes}
use Rattle.std.specs.List.{filter_map, flat_map}
use Rattle.npm_advisories.specs.Advisories.{AboutValue}
use Rattle.npm_advisories.specs.Audit.{FoundValue}
use Rattle.npm_lock_reports.specs.Exceptions.{ExceptionsValue, place_of, some_list}
use Rattle.npm_lock_reports.specs.declared.excepted.Excepted.{Excepted}

-- an installed package that is hit, and the place of the exception
pub record ExceptedValue : Type 0 where
  pub folder : List ℕ
  pub name : List ℕ
  pub version : Option (List ℕ)
  pub place : ℕ

-- what a contract sees of it
abbrev pub excepted_value : Excepted → ExceptedValue
excepted_value excepted = record {
  folder = string_bytes excepted.folder;
  name = string_bytes excepted.name;
  version = option_map string_bytes excepted.version;
  place = excepted.place;
}

-- a package with its exception
abbrev pub excepted_at : FoundValue → (place : ℕ) → ExceptedValue
excepted_at found place = record { folder = found.folder; name = found.name; version = found.version; place = place }

-- an advisory that hits the package, if it is excepted for it
abbrev pub excepted_hit : ExceptionsValue → FoundValue → AboutValue → List ExceptedValue
excepted_hit exceptions found about =
    some_list (option_map (excepted_at found) (place_of exceptions found.name about))

-- these of the advisories
abbrev pub excepted_among : ExceptionsValue → FoundValue → List AboutValue → List ExceptedValue
excepted_among exceptions found hits = flat_map (excepted_hit exceptions found) hits

-- of all packages, in their order
abbrev pub excepted_in : ExceptionsValue → List FoundValue → List ExceptedValue
excepted_in exceptions found = flat_map (λ one. excepted_among exceptions one one.hits) found
