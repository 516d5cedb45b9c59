-- What the map of the dependencies of a package has for a name.
use Rattle.std.specs.Prelude.{ℕ, List, Option, option_map}
use Rattle.std.specs.BTreeMap.{BTreeMap, get_by}
use Rattle.std.specs.Cmp.Lexicographic.{slice_cmp}
use Rattle.std.specs.Ordering.{nat_cmp}
use denote.Ref.{Bor}
use Rattle.npm_packages.specs.Asked.{AskedValue}
use Rattle.npm_packages.specs.PackageValue.{asked_value}
use Rattle.npm_packages.specs.declared.asked.Asked.{Asked}

-- what the map has at a name
abbrev pub at_name : BTreeMap (Bor (List ℕ)) Asked → (name : List ℕ) → Option AskedValue
at_name all name = option_map asked_value (get_by (λ k. slice_cmp nat_cmp name k.now) all)
