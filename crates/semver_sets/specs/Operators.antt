-- Operators before a partial, and a partial without operator: npm's "Ranges" and "X-Ranges".
use Rattle.std.specs.Prelude.{◌≡◌, ℕ, ◌+◌, List, Option, Some, None, codes}
use Rattle.semver_sets.specs.Comparator.{Comparator, above, at_least, at_most, below, exactly, with_major, with_minor}
use Rattle.semver_sets.specs.PartialText.{IsLed, IsPartialText, Partial, by_row}
use Rattle.semver_texts.specs.Version.{VersionValue, least_of, release, without_build}

-- the five operators
pub data Operator : Type 0 where
  greater_or_equal : Operator
  greater : Operator
  equal : Operator
  less_or_equal : Operator
  less : Operator

-- how they are written
abbrev pub operator_text : Operator → List ℕ
operator_text greater_or_equal = codes ">="
operator_text greater = codes ">"
operator_text equal = codes "="
operator_text less_or_equal = codes "<="
operator_text less = codes "<"

-- By the components of a partial and its version z:

-- `>=`
abbrev pub greater_or_equal_row : (major minor patch : Option ℕ) (z : VersionValue) → Option Comparator
-- `>=1.2.3-a+b`, `>=1.2` is `>=1.2.0`, `>=1.x.3` is `>=1.0.3`, `>=*` is `>=0.0.0`
greater_or_equal_row major minor patch z = Some (at_least z)

-- `>`
abbrev pub greater_row : (major minor patch : Option ℕ) (z : VersionValue) → Option Comparator
-- `>1.2` is `>=1.3.0`
greater_row (Some major) (Some minor) None z = Some (at_least (release major (minor + 1) 0))
-- `>1` is `>=2.0.0`
greater_row (Some major) None None z = Some (at_least (release (major + 1) 0 0))
-- `>1.2.3`, `>1.x.3` is `>1.0.3`, `>*` is `>0.0.0`
greater_row major minor patch z = Some (above z)

-- `<`
abbrev pub less_row : (major minor patch : Option ℕ) (z : VersionValue) → Option Comparator
-- `<1.2` is `<1.2.0-0`
less_row (Some major) (Some minor) None z = Some (below (least_of major minor 0))
-- `<1.2.3`, `<1` is `<1.0.0`, `<1.x.3` is `<1.0.3`, `<*` is `<0.0.0`
less_row major minor patch z = Some (below z)

-- `<=`
abbrev pub less_or_equal_row : (major minor patch : Option ℕ) (z : VersionValue) → Option Comparator
-- `<=1.2.3`, `<=1.x.3` is `<=1.0.3`, `<=x.x.3` is `<=0.0.3`
less_or_equal_row major minor (Some patch) z = Some (at_most z)
-- `<=1.2` is `<=1.2.0-0`, `<=1` is `<=1.0.0-0`, `<=*` is `<=0.0.0-0`
less_or_equal_row major minor None z = Some (at_most (least_of z.major z.minor 0))

-- `=`
abbrev pub equal_row : (major minor patch : Option ℕ) (z : VersionValue) → Option Comparator
-- `=1.2.3-a+b` is `>=1.2.3-a <=1.2.3-a`
equal_row (Some major) (Some minor) (Some patch) z = Some (exactly (without_build z))
-- `=1.2` is `>=1.2.0 <1.3.0-0`
equal_row (Some major) (Some minor) None z = Some (with_minor major minor)
-- `=1` and `=1.x.3` are `>=1.0.0 <2.0.0-0`
equal_row (Some major) None patch z = Some (with_major major)
-- `=*` gives no comparator
equal_row None minor patch z = None

-- a partial alone
abbrev pub plain_row : (major minor patch : Option ℕ) (z : VersionValue) → Option Comparator
-- `1.2.3-a+b` is `>=1.2.3-a+b <=1.2.3-a+b`
plain_row (Some major) (Some minor) (Some patch) z = Some (exactly z)
-- `1.2` is `>=1.2.0 <1.3.0-0`
plain_row (Some major) (Some minor) None z = Some (with_minor major minor)
-- `1` and `1.x.3` are `>=1.0.0 <2.0.0-0`
plain_row (Some major) None patch z = Some (with_major major)
-- `*` is `>=0.0.0`
plain_row None minor patch z = Some (at_least (release 0 0 0))

-- the row of an operator
abbrev pub operator_row : Operator → (major minor patch : Option ℕ) (z : VersionValue) → Option Comparator
operator_row greater_or_equal major minor patch z = greater_or_equal_row major minor patch z
operator_row greater major minor patch z = greater_row major minor patch z
operator_row equal major minor patch z = equal_row major minor patch z
operator_row less_or_equal major minor patch z = less_or_equal_row major minor patch z
operator_row less major minor patch z = less_row major minor patch z

-- an operator, optional blanks, and a partial: `>= v1.2.3`
pub record IsOperatorText (text : List ℕ) (comparator : Option Comparator) : Type 0 where
  pub operator : Operator
  pub partial : Partial
  pub written : IsLed (operator_text operator) text partial
  pub says : comparator ≡ by_row (operator_row operator) partial

-- a partial alone: `1.2.x`
pub record IsPlainText (text : List ℕ) (comparator : Option Comparator) : Type 0 where
  pub partial : Partial
  pub written : IsPartialText text partial
  pub says : comparator ≡ by_row plain_row partial
