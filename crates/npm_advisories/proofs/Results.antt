-- What follows from a fact on a result.
use Rattle.std.proofs.Common.{◌↔◌, IfOk, Result, Ok, Err, Option, Some, None, IfSome, IsNone, OnOk}
use Rattle.node_semver.specs.Least.{IsLeastOf, IsNoneOf}
use Rattle.node_semver.specs.Versions.{VersionValue}
use Rattle.npm_advisories.specs.Offers.{IsLeastOrNone}

module _ {A E : Type 0} {P Q R S : A → Type 0} where
  -- what follows from three facts for each value follows for the value of a result
  pub ok-map3 : (r : Result A E) → ((a : A) → P a → Q a → R a → S a) → IfOk r P → IfOk r Q → IfOk r R → IfOk r S
  ok-map3 (Ok a) f p q s = f a p q s
  ok-map3 (Err e) f p q s = tt

module _ {Wanted Other : VersionValue → Type 0} (same : (v : VersionValue) → Wanted v ↔ Other v) where
  -- where the same versions are wanted, the least is the same
  pub same-least : (found : Option VersionValue) → IfSome found (IsLeastOf Wanted) → IfSome found (IsLeastOf Other)
  same-least None least = tt
  same-least (Some v) least = record {
    wanted = (same v).0 least.wanted;
    none_below = λ w other. least.none_below w ((same w).1 other);
  }

  pub same-none : (found : Option VersionValue) → IsNone found ↔ IsNoneOf Wanted → IsNone found ↔ IsNoneOf Other
  same-none found none = (
    λ is v other. none.0 is v ((same v).1 other),
    λ no. none.1 (λ v wanted. no v ((same v).0 wanted)),
  )

  pub same-offer : (found : Option VersionValue) → IsLeastOrNone Wanted found → IsLeastOrNone Other found
  same-offer found is = record {
    least = same-least found is.least;
    none = same-none found is.none;
    build = is.build;
  }

-- what follows from a fact where there is a result
pub ok-at : {A E P Q : Type 0} (r : Result A E) → (P → Q) → OnOk r P → OnOk r Q
ok-at (Ok a) f p = f p
ok-at (Err e) f p = tt
