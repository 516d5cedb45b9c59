-- The text of a line from a place on, with nothing past its end.
use native.Mathlib.Omega.{arith}
use Rattle.std.proofs.Common.{◌≡◌, ◌≤◌, ℕ, List, ◌++◌, Option, IfSome, codes, drop}
use Rattle.std.proofs.Common.{if◌then◌else◌, length, sym, true}
use Rattle.std.specs.Ordering.{eq_by_cmp}
use Rattle.semver_cuts.specs.declared.cut.Cut.TheVariants.{Before, After, End}
use Rattle.semver_cuts.specs.Ends.{Ends}
use Rattle.semver_texts.specs.Comparison.{version_cmp}
use Rattle.semver_texts.specs.Print.{version_text}
use Rattle.semver_texts.specs.Lemmas.Public.{whole_text}
use Rattle.semver_sets.specs.RangePrint.{ends_text, set_text}
use Rattle.semver_texts.specs.Version.{VersionValue}

-- the same of a text that may not have been put
pub whole_if_put : (put : Option ℕ) (line new text wanted : List ℕ) → length line ≤ 176 → text ≡ wanted
    → IfSome put (λ start. drop start new ≡ text ++ drop 176 line) → IfSome put (λ start. drop start new ≡ wanted)
whole_if_put put line new text wanted h1 h2 h3 = grind (arith, whole_text)

-- a set of one version
pub alone_text : (set : Ends VersionValue) (low high : VersionValue) → set.lower ≡ Before low → set.upper ≡ After high
    → eq_by_cmp version_cmp low high ≡ true → version_text low ≡ set_text set
alone_text set low high p q e = grind arith

-- and one that is open above
pub at_least_text : (set : Ends VersionValue) (low : VersionValue) → set.lower ≡ Before low → set.upper ≡ End
    → codes ">=" ++ version_text low ≡ set_text set
at_least_text set low p q = sym (λ i. ends_text (p i) (q i))
