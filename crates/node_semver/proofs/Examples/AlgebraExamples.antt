-- Worked examples: the intersection of two texts, set by set, and which of two ends at one cut wins; and which
-- prereleases pairs of sets admit. Each is computed over the definitions.
use Rattle.std.proofs.Common.{◌≡◌, ◌↔◌, ℕ, Bool, true, false, List, [], ◌∷◌, Option, Some, None, codes, inr, refl}
use Rattle.std.specs.Prelude.{map}
use Rattle.std.specs.Fmt.{digits}
use Rattle.std.specs.List.{AllByRecursion, list_any}
use Rattle.semver_cuts.specs.CommonSpans.{common_spans}
use Rattle.semver_cuts.specs.Ends.{Ends}
use Rattle.semver_sets.specs.Comparator.{at_least, below, from_up_to}
use Rattle.semver_texts.specs.Comparison.{version_cmp}
use Rattle.semver_sets.specs.Meaning.{Admit, AnyByRecursion}
use Rattle.semver_sets.specs.RangePrint.{range_text}
use Rattle.semver_texts.specs.Version.{VersionValue, release}
use Rattle.semver_sets.specs.Lemmas.Deciding.{admit, admit-iff, any-iff}
use Rattle.semver_sets.proofs.Examples.SetComputing.{Sets, merged-by, sets_in}
use Rattle.semver_sets.proofs.Examples.WordExamples.{prerelease}
use Rattle.node_semver.specs.RangeAlgebra.{PairAdmits}
use Rattle.node_semver.specs.SetTree.{AreSetsOfTree, Formula, both, of_text}

-- ---- tables

-- two texts, and the print of their intersection
abbrev Row : Type 0
Row = List ℕ × List ℕ × List ℕ

-- the tree has sets of this print
abbrev pub GivesPrint : Formula → List ℕ → Type 0
GivesPrint tree print = (sets : Sets) × AreSetsOfTree tree sets × (range_text sets ≡ print)

abbrev common_print : Option Sets → Option Sets → Option (List ℕ)
common_print None others = None
common_print (Some ones) None = None
common_print (Some ones) (Some others) = Some (range_text (common_spans version_cmp ones others))

common-read : (one other print : List ℕ) (ones others : Option Sets) → sets_in one ≡ ones → sets_in other ≡ others
    → common_print ones others ≡ Some print → GivesPrint (both (of_text one) (of_text other)) print
common-read one other print None others read read' shown = cc shown
common-read one other print (Some ones) None read read' shown = cc shown
common-read one other print (Some ones) (Some others) read read' shown =
    let common = common_spans version_cmp ones others in
    let same : range_text common ≡ print = cc shown in
    (common, inr (ones, others, merged-by one ones read, merged-by other others read', refl), same)

abbrev pub AreCommon : List Row → Type 0
AreCommon rows = AllByRecursion (λ (row : Row). GivesPrint (both (of_text row.0) (of_text row.1)) row.2) rows

all-common : (rows : List Row)
    → map (λ (row : Row). common_print (sets_in row.0) (sets_in row.1)) rows ≡ map (λ (row : Row). Some row.2) rows
    → AreCommon rows
all-common [] computed = tt
all-common (row ∷ rows) computed =
    let first : common_print (sets_in row.0) (sets_in row.1) ≡ Some row.2 = cc computed in
    let others : map (λ (row : Row). common_print (sets_in row.0) (sets_in row.1)) rows
    ≡ map (λ (row : Row). Some row.2) rows = cc computed in
    (common-read row.0 row.1 row.2 (sets_in row.0) (sets_in row.1) refl refl first, all-common rows others)

-- ---- ends at one cut: of lower ends the second text's wins, and of upper ends the first one's

abbrev ties : List Row
ties =
    (codes "1.2.3+a", codes ">=1.2.3+b", codes "1.2.3+b")
    ∷ (codes ">=1.2.3+b", codes "1.2.3+a", codes "1.2.3+a")
    ∷ (codes ">=1.0.0+a", codes ">=1.0.0+b", codes ">=1.0.0+b")
    ∷ (codes ">1.0.0+a", codes ">1.0.0+b", codes ">1.0.0+b")
    ∷ (codes "<=2.0.0+a", codes "<=2.0.0+b", codes "<=2.0.0+a")
    ∷ (codes "<2.0.0+a", codes "<2.0.0+b", codes "<2.0.0+a")
    ∷ (codes ">=1.0.0+a <2.0.0+a", codes ">=1.0.0+b <2.0.0+b", codes ">=1.0.0+b <2.0.0+a")
    ∷ []

pub ties-common : AreCommon ties
unfolding sets_in digits
ties-common = all-common ties refl

-- ---- each set of the first text with each of the second

abbrev pairs : List Row
pairs =
    (codes "<1 || 3 - 4", codes "0.5 - 3.5.0", codes ">=0.5.0 <1.0.0||>=3.0.0 <=3.5.0")
    ∷ (
      codes "1 || 2",
      codes ">=0 || >=1.5",
      codes ">=1.0.0 <2.0.0-0||>=1.5.0 <2.0.0-0||>=2.0.0 <3.0.0-0||>=2.0.0 <3.0.0-0",
    )
    ∷ (codes "1 || 1", codes ">=0", codes ">=1.0.0 <2.0.0-0||>=1.0.0 <2.0.0-0")
    ∷ (codes ">1.0.0-a", codes "<1.0.0-a.0", codes ">1.0.0-a <1.0.0-a.0")
    ∷ (codes ">1.2.3", codes "<=1.2.3", [])
    ∷ (codes "1", codes "foo", [])
    ∷ []

pub pairs-common : AreCommon pairs
unfolding sets_in digits
pairs-common = all-common pairs refl

-- ---- prereleases

pair_admits : Sets → Sets → VersionValue → Bool
pair_admits ones others v = list_any (λ one. list_any (λ other. admit (one ∷ other ∷ []) v) others) ones

pair-iff : (ones others : Sets) (v : VersionValue) → (pair_admits ones others v ≡ true) ↔ PairAdmits ones others v
unfolding pair_admits
pair-iff ones others v =
    any-iff (λ one. AnyByRecursion (λ other. Admit (one ∷ other ∷ []) v) others)
    (λ one. list_any (λ other. admit (one ∷ other ∷ []) v) others)
    (λ one. any-iff (λ other. Admit (one ∷ other ∷ []) v) (λ other. admit (one ∷ other ∷ []) v)
    (λ other. admit-iff (one ∷ other ∷ []) v) others)
    ones

-- two ranges and a version
abbrev Question : Type 0
Question = Sets × Sets × VersionValue

all-admitted : (rows : List Question)
    → map (λ (row : Question). pair_admits row.0 row.1 row.2) rows ≡ map (λ (row : Question). true) rows
    → AllByRecursion (λ (row : Question). PairAdmits row.0 row.1 row.2) rows
all-admitted [] computed = tt
all-admitted (row ∷ rows) computed =
    let first : pair_admits row.0 row.1 row.2 ≡ true = cc computed in
    let others : map (λ (row : Question). pair_admits row.0 row.1 row.2) rows ≡ map (λ (row : Question). true) rows =
    cc computed in
    ((pair-iff row.0 row.1 row.2).0 first, all-admitted rows others)

all-turned_away : (rows : List Question)
    → map (λ (row : Question). pair_admits row.0 row.1 row.2) rows ≡ map (λ (row : Question). false) rows
    → AllByRecursion (λ (row : Question). ¬ PairAdmits row.0 row.1 row.2) rows
all-turned_away [] computed = tt
all-turned_away (row ∷ rows) computed =
    let first : pair_admits row.0 row.1 row.2 ≡ false = cc computed in
    let others : map (λ (row : Question). pair_admits row.0 row.1 row.2) rows ≡ map (λ (row : Question). false) rows =
    cc computed in
    (λ admits. let passes = (pair-iff row.0 row.1 row.2).1 admits in cc (passes, first), all-turned_away rows others)

-- `>=1.0.0-a`
abbrev from_a : Ends VersionValue
from_a = at_least (prerelease 1 0 0 (codes "a"))

-- `<2.0.0`
abbrev below_two : Ends VersionValue
below_two = below (release 2 0 0)

-- where an end of one of the two sets opens the triple, be it of the first, of the second, or of a later one
abbrev admitted : List Question
admitted =
    (from_a ∷ [], below_two ∷ [], prerelease 1 0 0 (codes "b"))
    ∷ (below_two ∷ [], from_a ∷ [], prerelease 1 0 0 (codes "b"))
    ∷ (at_least (release 0 5 0) ∷ [], below_two ∷ from_a ∷ [], prerelease 1 0 0 (codes "c"))
    ∷ (from_a ∷ [], below_two ∷ [], release 1 9 0)
    ∷ []

pub admitted-pairs : AllByRecursion (λ (row : Question). PairAdmits row.0 row.1 row.2) admitted
unfolding pair_admits
admitted-pairs = all-admitted admitted refl

-- where no end opens the triple; where the version does not lie in the set whose end does; and where it does not lie in
-- a set of each
abbrev turned_away : List Question
turned_away =
    (from_a ∷ [], below_two ∷ [], prerelease 1 0 1 (codes "b"))
    ∷ (
      from_up_to (prerelease 1 0 0 (codes "a")) (prerelease 1 0 0 (codes "b")) ∷ at_least (release 0 5 0) ∷ [],
      below_two ∷ [],
      prerelease 1 0 0 (codes "c"),
    )
    ∷ (from_a ∷ [], below_two ∷ [], release 2 0 0)
    ∷ []

pub turned_away-pairs : AllByRecursion (λ (row : Question). ¬ PairAdmits row.0 row.1 row.2) turned_away
unfolding pair_admits
turned_away-pairs = all-turned_away turned_away refl
