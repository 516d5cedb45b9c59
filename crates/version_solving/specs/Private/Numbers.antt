-- The numbers of names, as the program holds them.
use Rattle.std.specs.Prelude.{◌≡◌, ℕ, List, Option, length}
use Rattle.std.specs.BTreeMap.{BTreeMap, get_by}
use Rattle.std.specs.Cmp.Lexicographic.{slice_cmp}
use Rattle.std.specs.Ordering.{nat_cmp}
use denote.Ref.{Bor}
use Rattle.version_solving.specs.Naming.{place_from}
use Rattle.version_solving.specs.declared.ask.Listed.{Listed}
use Rattle.version_solving.specs.declared.numbers.Numbers.{Numbers}

-- what a map has for a name
abbrev pub at_name : BTreeMap (Bor (List ℕ)) ℕ → (name : List ℕ) → Option ℕ
at_name places name = get_by (λ k. slice_cmp nat_cmp name k.now) places

-- they are the numbers of these names
pub record AreNumbers (listed : List Listed) (numbers : Numbers) : Type 0 where
  pub by_name : (name : List ℕ) → at_name numbers.by_name name ≡ place_from 0 listed name
  pub absent : numbers.absent ≡ length listed
