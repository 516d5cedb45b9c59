-- Worked examples: the sets that texts write, and their prints. Each is computed over the definitions.
use Rattle.std.proofs.Common.{◌≡◌, ℕ, List, [], ◌∷◌, true, false, codes, refl}
use Rattle.std.specs.Fmt.{digits}
use Rattle.semver_cuts.specs.declared.cut.Cut.TheVariants.{Before, After}
use Rattle.semver_sets.specs.Comparator.{Comparator, above, at_least, at_most, below, exactly, from_up_to, with_major}
use Rattle.semver_texts.specs.IdentifierValue.{alphanumeric}
use Rattle.semver_sets.specs.Merging.{all_cuts}
use Rattle.semver_sets.specs.RangeEquality.{are_same_cuts}
use Rattle.semver_sets.specs.RangePrint.{range_text}
use Rattle.semver_texts.specs.Version.{VersionValue, least_of, release}
use Rattle.semver_sets.proofs.Examples.SetComputing.{AreComputed, AreMerged, Row, all-merged, sets_in}

-- `1.2.3-rc`
abbrev candidate : ℕ → ℕ → ℕ → VersionValue
candidate m n p = record (release m n p) { pre_release = alphanumeric (codes "rc") ∷ [] }

-- `1.2.3+a`
abbrev built : ℕ → ℕ → ℕ → List ℕ → VersionValue
built m n p text = record (release m n p) { build = alphanumeric text ∷ [] }

-- `>1.2.3 <=2.0.0`
abbrev above_up_to : VersionValue → VersionValue → Comparator
above_up_to v w = record { lower = After v; upper = After w }

-- `>=1.2.3 <=2.0.0`
abbrev pub from_to : VersionValue → VersionValue → Comparator
from_to v w = record { lower = Before v; upper = After w }

-- ---- one set: the ends of its comparators that are nearest to one another

abbrev one_set : List Row
one_set =
    (codes "1", with_major 1 ∷ [], codes ">=1.0.0 <2.0.0-0")
    ∷ (codes "*", at_least (release 0 0 0) ∷ [], codes ">=0.0.0")
    ∷ (codes "^0", below (least_of 1 0 0) ∷ [], codes "<1.0.0-0")
    ∷ (codes ">1.2.3", above (release 1 2 3) ∷ [], codes ">1.2.3")
    ∷ (codes "<=2.0.0", at_most (release 2 0 0) ∷ [], codes "<=2.0.0")
    ∷ (codes "1.2.3 - 2", from_up_to (release 1 2 3) (least_of 3 0 0) ∷ [], codes ">=1.2.3 <3.0.0-0")
    ∷ (codes "<=2.0.0 >1.2.3", above_up_to (release 1 2 3) (release 2 0 0) ∷ [], codes ">1.2.3 <=2.0.0")
    ∷ (codes ">=1.2.3-rc >=1.0.0 <2.0.0", from_up_to (candidate 1 2 3) (release 2 0 0) ∷ [], codes ">=1.2.3-rc <2.0.0")
    ∷ (codes ">1.0.0 >=1.0.0", above (release 1 0 0) ∷ [], codes ">1.0.0")
    ∷ (codes "<=1.0.0 <1.0.0", below (release 1 0 0) ∷ [], codes "<1.0.0")
    ∷ []

one_set-computed : AreComputed one_set
unfolding sets_in digits
one_set-computed = record { sets = refl; shown = refl }

pub one_set-merged : AreMerged one_set
one_set-merged = all-merged one_set one_set-computed

-- ---- builds: of equal ends the set has the last lower one and the first upper one

abbrev builds : List Row
builds =
    (codes ">=1.0.0+a >=1.0.0+b", at_least (built 1 0 0 (codes "b")) ∷ [], codes ">=1.0.0+b")
    ∷ (codes ">=1.0.0+b >=1.0.0+a", at_least (built 1 0 0 (codes "a")) ∷ [], codes ">=1.0.0+a")
    ∷ (codes "<1.0.0+a <1.0.0+b", below (built 1 0 0 (codes "a")) ∷ [], codes "<1.0.0+a")
    ∷ (codes ">=1.0.0+a >=2.0.0+b >=2.0.0+c >=1.0.0+d", at_least (built 2 0 0 (codes "c")) ∷ [], codes ">=2.0.0+c")
    ∷ (codes "=1.2.3+a", exactly (release 1 2 3) ∷ [], codes "1.2.3")
    ∷ (codes "1.2.3+a", exactly (built 1 2 3 (codes "a")) ∷ [], codes "1.2.3+a")
    ∷ (codes ">=1.2.3 <=1.2.3+a", from_to (release 1 2 3) (built 1 2 3 (codes "a")) ∷ [], codes "1.2.3")
    ∷ []

builds-computed : AreComputed builds
unfolding sets_in digits
builds-computed = record { sets = refl; shown = refl }

pub builds-merged : AreMerged builds
builds-merged = all-merged builds builds-computed

-- ---- the sets of several alternatives, and of none

abbrev alternatives : List Row
alternatives =
    (codes "1 || foo || 2", with_major 1 ∷ with_major 2 ∷ [], codes ">=1.0.0 <2.0.0-0||>=2.0.0 <3.0.0-0")
    ∷ (codes "1.2.3 || >4", exactly (release 1 2 3) ∷ at_least (release 5 0 0) ∷ [], codes "1.2.3||>=5.0.0")
    ∷ (codes ">4 || 1.2.3", at_least (release 5 0 0) ∷ exactly (release 1 2 3) ∷ [], codes ">=5.0.0||1.2.3")
    ∷ (codes "1||1", with_major 1 ∷ with_major 1 ∷ [], codes ">=1.0.0 <2.0.0-0||>=1.0.0 <2.0.0-0")
    ∷ (codes ">4 <3 || 1", with_major 1 ∷ [], codes ">=1.0.0 <2.0.0-0")
    ∷ (codes "foo", [], [])
    ∷ (codes "||", [], [])
    ∷ (codes "2 - 1 || >4 <3", [], [])
    ∷ []

alternatives-computed : AreComputed alternatives
unfolding sets_in digits
alternatives-computed = record { sets = refl; shown = refl }

pub alternatives-merged : AreMerged alternatives
alternatives-merged = all-merged alternatives alternatives-computed

-- the set of all cuts, which `Range::any` gives
pub all_cuts-text : range_text (all_cuts ∷ []) ≡ codes "*"
all_cuts-text = refl

-- ---- equality

-- `>=1.0.0+a` is `>=1.0.0+b`
pub builds-same : are_same_cuts (at_least (built 1 0 0 (codes "a")) ∷ []) (at_least (built 1 0 0 (codes "b")) ∷ [])
    ≡ true
builds-same = refl

-- `1 || 2` is not `2 || 1`
pub order-matters : are_same_cuts (with_major 1 ∷ with_major 2 ∷ []) (with_major 2 ∷ with_major 1 ∷ []) ≡ false
order-matters = refl

-- `1` is not `1 || 1`
pub number-matters : are_same_cuts (with_major 1 ∷ []) (with_major 1 ∷ with_major 1 ∷ []) ≡ false
number-matters = refl
