-- What is added to an index of advisories.
use Rattle.std.specs.Prelude.{◌≡◌, ◌++◌, ℕ, List, Bool, bytes_eq, filter, true}
use Rattle.std.specs.List.{AllZip}
use Rattle.npm_advisories.specs.Advisories.{AdvisoryValue, about_name}
use Rattle.npm_advisories.specs.Index.{IsAdvisory, at_name}
use Rattle.npm_advisories.specs.declared.advisory.Advisory.{Advisory}
use Rattle.npm_advisories.specs.declared.index.Index.{Index}

-- those about the package with this name
abbrev pub named : (name : List ℕ) → List Advisory → List Advisory
named name advisories = filter (λ advisory. bytes_eq advisory.name.now name) advisories

-- these advisories were read, and added to a list
pub record AddsAt (old new : List Advisory) (values : List AdvisoryValue) : Type 0 where
  pub added : List Advisory
  pub read : AllZip IsAdvisory values added
  pub now : new ≡ old ++ added

-- of these advisories those about wanted packages were read, and added to the index
pub record Adds (is_wanted : List ℕ → Bool) (old new : Index) (values : List AdvisoryValue) : Type 0 where
  pub at : (name : List ℕ) → is_wanted name ≡ true
      → AddsAt (at_name old name) (at_name new name) (about_name name values)
