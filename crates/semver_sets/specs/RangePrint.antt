-- How sets and ranges are printed: as a range text that gives the same sets.
use Rattle.std.specs.Prelude.{ℕ, List, [], ◌∷◌, ◌++◌, codes, if◌then◌else◌}
use Rattle.std.specs.Ordering.{eq_by_cmp}
use Rattle.semver_cuts.specs.declared.cut.Cut.{Cut}
use Rattle.semver_cuts.specs.declared.cut.Cut.TheVariants.{Start, Before, After, End}
use Rattle.semver_cuts.specs.Ends.{Ends}
use Rattle.semver_texts.specs.Comparison.{version_cmp}
use Rattle.semver_texts.specs.Print.{version_text}
use Rattle.semver_texts.specs.Version.{VersionValue}

-- a lower end: `>=1.2.3` or `>1.2.3`, and nothing for the start. (No set begins at the end; the row makes it nothing.)
abbrev pub lower_text : Cut VersionValue → List ℕ
lower_text Start = []
lower_text (Before v) = codes ">=" ++ version_text v
lower_text (After v) = codes ">" ++ version_text v
lower_text End = []

-- an upper end: `<1.2.3` or `<=1.2.3`, and nothing for the end. (No set ends at the start; the row makes it nothing.)
abbrev pub upper_text : Cut VersionValue → List ℕ
upper_text Start = []
upper_text (Before v) = codes "<" ++ version_text v
upper_text (After v) = codes "<=" ++ version_text v
upper_text End = []

-- both ends with a space between them: `>=1.2.3 <2.0.0`
abbrev pub both_text : Cut VersionValue → Cut VersionValue → List ℕ
both_text lower upper = lower_text lower ++ (codes " " ++ upper_text upper)

-- `*` for all cuts, one end if the other is open, a version alone if both ends are at it, and else both ends. The set
-- from just before 1.2.3 to just after 1.2.3+7 is `1.2.3`, without the build of the upper end
abbrev pub ends_text : Cut VersionValue → Cut VersionValue → List ℕ
ends_text Start End = codes "*"
ends_text Start upper = upper_text upper
ends_text lower End = lower_text lower
ends_text (Before v) (After w) = if eq_by_cmp version_cmp v w then version_text v else both_text (Before v) (After w)
ends_text lower upper = both_text lower upper

-- one set: `*`, `>=1.2.3`, `1.2.3`, `>1.2.3 <=2.0.0`
abbrev pub set_text : Ends VersionValue → List ℕ
set_text set = ends_text set.lower set.upper

-- the sets in their order, with `||` and no blank between them: `1.2.3||>=5.0.0`
abbrev pub range_text : List (Ends VersionValue) → List ℕ
range_text [] = []
range_text (set ∷ []) = set_text set
range_text (set ∷ next ∷ rest) = set_text set ++ (codes "||" ++ range_text (next ∷ rest))
