-- The least version that two ranges both have, from the best of the candidates.
use native.Mathlib.Omega.{arith}
use Rattle.std.proofs.Common.{◌≡◌, Bool, List, Option}
use Rattle.semver_cuts.specs.Ends.{Ends}
use Rattle.semver_texts.specs.Version.{VersionValue}
use Rattle.node_semver.specs.Private.CandidateViews.{AreEndsTried, AreWantedOfBoth, IsLeastOrNone}
use Rattle.node_semver.proofs.Least.CandidateBelow.{best-least}
use Rattle.node_semver.proofs.Least.HighestCut.{has-between}

pub common-least : (included : Bool) (sets others : List (Ends VersionValue)) (best : Option VersionValue)
    → AreEndsTried included (AreWantedOfBoth included sets others) (λ set. set.lower) sets others best
    → IsLeastOrNone (AreWantedOfBoth included sets others) best
common-least included sets others best tried =
    best-least included (AreWantedOfBoth included sets others) sets others (λ set. set.lower)
    (record {
      admitted = λ v both. both.one;
      between = λ c x w alike from to lowers others_lowers both. record {
        one = has-between included c x w alike from to sets lowers both.one;
        other = has-between included c x w alike from to others others_lowers both.other;
      };
    })
    best tried

-- the same of a list that is seen as another
pub common-seen : (included : Bool) (inside sets others : List (Ends VersionValue)) → inside ≡ sets
    → (best : Option VersionValue)
    → AreEndsTried included (AreWantedOfBoth included inside others) (λ set. set.lower) inside others best
    → IsLeastOrNone (AreWantedOfBoth included sets others) best
common-seen included inside sets others same best tried = grind (arith, common-least)
