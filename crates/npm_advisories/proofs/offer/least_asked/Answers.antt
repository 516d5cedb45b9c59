-- What admits the least release of all is the least of those that are admitted.
use Rattle.std.proofs.Common.{◌≡◌, ℕ, List, None, Some, map, refl}
use Rattle.std.specs.List.{AllByRecursion}
use Rattle.semver_cuts.specs.Ends.{Ends}
use Rattle.node_semver.specs.Versions.{VersionValue}
use Rattle.npm_advisories.specs.Offers.{IsAskedFor, IsLeastOrNone}
use Rattle.npm_advisories.specs.Private.Covering.{IsAdmittedFrom, IsFreeFrom}
use Rattle.npm_advisories.proofs.offer.least_asked.Goals as goal

module _ (covered : List (Ends VersionValue)) (asked : List (List ℕ)) (from : VersionValue) where
  none : IsLeastOrNone (IsFreeFrom covered from) None → IsLeastOrNone (IsAdmittedFrom covered asked from) None
  none is = record {
    least = tt;
    none = (λ empty v admitted. is.none.0 empty v admitted.free, λ no. refl);
    build = tt;
  }

  some : (v : VersionValue) → IsLeastOrNone (IsFreeFrom covered from) (Some v)
      → AllByRecursion (λ text. IsAskedFor text v) asked → IsLeastOrNone (IsAdmittedFrom covered asked from) (Some v)
  some v is all = record {
    least = record {
      wanted = record { free = is.least.wanted; admitted = all };
      none_below = λ w admitted. is.least.none_below w admitted.free;
    };
    none = (
      λ empty. absurd (is.none.0 empty v is.least.wanted),
      λ no. absurd (no v (record { free = is.least.wanted; admitted = all })),
    );
    build = is.build;
  }

pub returns-in_default : goal.returns-in_default
returns-in_default c = none c.args.covered.now (map (λ text. text.now) c.args.asked.now) c.args.from
    (rw c.in_default.is at c.requires.least)

pub returns-then-branch : goal.returns-then-branch
returns-then-branch c = rw c.in_ok-copy.ensures.copy (some c.args.covered.now (map (λ text. text.now) c.args.asked.now)
    c.args.from c.in-Some.found (rw c.in-Some.is at c.requires.least)
    ((rw c.if-branch.true at c.in_ok-is_asked_by_all.ensures) refl))
