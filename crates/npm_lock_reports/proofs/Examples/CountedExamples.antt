-- What the definitions say of some hits.
use Rattle.std.proofs.Common.{◌≡◌, ◌++◌, ◌∷◌, [], List, ℕ, Option, None, Some, codes, false, refl, true}
use Rattle.serde_json.specs.Data.{Data, boolean, member, no_items, no_members, object, string}
use Rattle.toml_datetime.specs.declared.datetime.Date.{Date}
use Rattle.npm_advisories.specs.Advisories.{AboutValue}
use Rattle.npm_advisories.specs.declared.severity.Severity.TheVariants.{High}
use Rattle.npm_advisories.specs.Audit.{FoundValue}
use Rattle.npm_lock_reports.specs.declared.omissions.Omissions.{Omissions}
use Rattle.npm_lock_reports.specs.Exceptions.{ExceptionsValue}
use Rattle.npm_lock_reports.specs.Counted.{counted_hits}

abbrev nothing : Omissions
nothing = record { dev = false; optional = false }

abbrev development : Omissions
development = record { dev = true; optional = false }

-- an advisory with this id
abbrev known : (id : List ℕ) → AboutValue
known id = record { id = string id; severity = High; title = None; url = None; aliases = no_items }

-- a package in `node_modules` that these advisories hit
abbrev hit : (name : List ℕ) → List AboutValue → FoundValue
hit name hits = record {
  folder = codes "node_modules/" ++ name;
  name = name;
  version = Some (codes "1.0.0");
  hits = hits;
  least = None;
  admitted = None;
}

-- `a` is there for development alone, and `b` is not
abbrev file : Data
file = object (member (codes "packages") (object (
    member (codes "node_modules/a") (object (member (codes "dev") (boolean true) no_members))
    (member (codes "node_modules/b") (object no_members) no_members))) no_members)

abbrev hits : List FoundValue
hits = hit (codes "a") (known (codes "GHSA-1") ∷ []) ∷ hit (codes "b") (known (codes "GHSA-1") ∷ known (codes "GHSA-2") ∷ []) ∷ []

abbrev today : Date
today = record { year = 2026; month = 11; day = 28 }

-- `GHSA-1` is excepted for this package
abbrev excepting : (name : List ℕ) → Option ExceptionsValue
excepting name = Some (record {
  list = record { id = codes "GHSA-1"; name = name; reason = codes "only used to build"; until = Some today } ∷ [];
  today = today;
})

pub all_count : counted_hits nothing None file hits ≡ record { found = hits; excepted = [] }
all_count = refl

pub without_development : counted_hits development None file hits
    ≡ record { found = hit (codes "b") (known (codes "GHSA-1") ∷ known (codes "GHSA-2") ∷ []) ∷ []; excepted = [] }
without_development = refl

-- the other advisory counts, and so does the same one for another package
pub one_is_excepted : counted_hits nothing (excepting (codes "b")) file hits ≡ record {
  found = hit (codes "a") (known (codes "GHSA-1") ∷ []) ∷ hit (codes "b") (known (codes "GHSA-2") ∷ []) ∷ [];
  excepted = record { folder = codes "node_modules/b"; name = codes "b"; version = Some (codes "1.0.0"); place = 0 } ∷ [];
}
one_is_excepted = refl

-- what is left out is not excepted as well
pub an_exception_of_what_is_left_out : (counted_hits development (excepting (codes "a")) file hits).excepted ≡ []
an_exception_of_what_is_left_out = refl
