-- Whether all versions of lists were published too late, and which version is picked by rank.
use Rattle.std.proofs.Common.{◌≡◌, ◌↔◌, ◌&&◌, ℕ, List, [], ◌∷◌, ◌++◌, Bool, true, false, IsTrue, Result, refl}
use Rattle.semver_cuts.specs.Lemmas.Lists.{all-append}
use Rattle.serde_json.specs.Data.{Data}
use Rattle.npm_pick.specs.Packument.{Release}
use Rattle.npm_pick.specs.Pick.{HasNoDefault, IsPickedIn, PickedValue, by_rank, empty}
use Rattle.npm_pick.specs.Pick as Picks
use Rattle.npm_pick.specs.Private.Picking.{AreLate, IsRankedIn}
use Rattle.npm_pick.specs.Private.Picking as Picking
use Rattle.npm_pick.specs.Times.{is_published}
use Rattle.npm_pick.specs.declared.error.PickError.{PickError}
use Rattle.npm_pick.specs.declared.options.Options.{Options}

module _ (p : Data) (o : Options) where
  first_late : (xs ys : List Release) → AreLate p o (xs ++ ys) → AreLate p o xs
  first_late [] ys all = tt
  first_late (x ∷ xs) ys all = (all.0, first_late xs ys all.1)

  last_late : (xs ys : List Release) → AreLate p o (xs ++ ys) → AreLate p o ys
  last_late [] ys all = all
  last_late (x ∷ xs) ys all = last_late xs ys all.1

  both : (xs ys : List Release) (a b : Bool) → (IsTrue a ↔ AreLate p o xs) → (IsTrue b ↔ AreLate p o ys)
      → (IsTrue (a && b) ↔ AreLate p o (xs ++ ys))
  both xs ys true b h g = (
    (λ yes. all-append (λ (release : Release). is_published o.before p release.key ≡ false) xs ys (h.0 refl) (g.0 yes)),
    (λ all. g.1 (last_late xs ys all)),
  )
  both xs ys false b h g = ((λ no. cc no), (λ all. h.1 (first_late xs ys all)))

  -- all of three lists were
  pub all_late : (xs ys zs : List Release) (a b c : Bool) → (IsTrue a ↔ AreLate p o xs)
      → (IsTrue b ↔ AreLate p o ys) → (IsTrue c ↔ AreLate p o zs)
      → (IsTrue ((a && b) && c) ↔ AreLate p o ((xs ++ ys) ++ zs))
  all_late xs ys zs a b c h g k = both (xs ++ ys) zs (a && b) c (both xs ys a b h g) k

  pub ranked_in : (range : List ℕ) (answer : Result PickedValue PickError) → HasNoDefault p o range
      → IsRankedIn p o range answer → IsPickedIn p o range answer
  ranked_in range answer default (Picking.best b rank is) = by_rank b rank default is
  ranked_in range answer default (Picking.late all) = empty default all
  ranked_in range answer default (Picking.none some has) = Picks.none default some has
