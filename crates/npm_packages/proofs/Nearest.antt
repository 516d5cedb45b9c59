-- The nearest package of a name, and what it says about the name.
use Rattle.std.proofs.Common.{◌≡◌, ◌⊎◌, ◌↔◌, ◌<◌, ◌≤◌, ℕ, List, Bool, true, false, Option, Some, None, ap}
use Rattle.std.proofs.Common.{arith, inl, inr, length, IsTrue, nat_eq, option_map, refl}
use Rattle.std.proofs.lemmas.Bool.Decides.{Decides-eqb}
use Rattle.serde_json.specs.Data.{Data}
use Rattle.npm_packages.specs.Folders.{IsAbove, is_modules, place_in}
use Rattle.npm_packages.specs.Packages.{IsFound, IsFoundIn, IsPassed, Package, package_at}
use Rattle.npm_packages.specs.Index.{ArePlacesOf, IsCovered, IsFront, IsNearestOf, IsRight, Places}
use Rattle.npm_packages.specs.LastParts.{IsPlain}
use Rattle.npm_packages.specs.PackageValue.{package_value}
use Rattle.npm_packages.specs.Lookups.{IsOutermostFrom, IsReached, itself}
use Rattle.npm_packages.specs.Private.Search.{IsHit, IsNearest}
use Rattle.npm_packages.specs.declared.index.Hit.{Hit}
use Rattle.npm_packages.proofs.Reaching.{found_in_nearest, found_in_none, front_reached, reached_front, reached_same}
use Rattle.npm_packages.proofs.Reaching.{reached_shorter, reached_within, shorter}

-- ---- the nearest hit in no folder above the outermost one

module _ (packages : Data) (from outermost name : List ℕ) (places : Places) (is : ArePlacesOf packages places)
    (is_outermost : IsOutermostFrom from outermost) (plain : IsPlain name)
  where
    covered : (best : Option Hit) → IsNearestOf places name (IsFront from) best → (folder : List ℕ) (found : Package)
        → IsReached from folder → IsFoundIn packages name folder found → IsCovered best folder
    covered best nearest folder found reached is_found =
        nearest.nearest folder (is.complete name folder found plain is_found) (reached_front reached)

    pub nearest_none : IsNearestOf places name (IsFront from) None → IsNearest packages from name None
    nearest_none nearest = record { hit = tt; nearest = covered None nearest }

    module _ (h : Hit) (nearest : IsNearestOf places name (IsFront from) (Some h)) where
      pub nearest_some : length outermost ≤ length h.folder.now → IsNearest packages from name (Some h)
      nearest_some long = record {
        hit = record {
          reached = front_reached is_outermost.reached h.folder.now nearest.hit.1 long;
          found =
              let right : IsRight packages name h.folder.now h = rw nearest.hit.0 at (is.sound name h.folder.now) in
              right.found;
        };
        nearest = covered (Some h) nearest;
      }

      pub nearest_over_all : length h.folder.now < length outermost → IsNearest packages from name None
      nearest_over_all short = record {
        hit = tt;
        nearest = λ folder found reached is_found.
            let near = covered (Some h) nearest folder found reached is_found in
            let same : near.0 ≡ h = cc near.1 in
            let less : length folder ≤ length h.folder.now = rw same at near.2 in
            absurd (omega (arith, less, short, reached_within reached is_outermost.reached is_outermost.last));
      }

-- ---- what the nearest hit says

module _ (packages : Data) (from outermost name : List ℕ) (best : Option Hit)
    (is_outermost : IsOutermostFrom from outermost) (plain : IsPlain name) (nearest : IsNearest packages from name best)
  where
    passed_at : (folder : List ℕ) → IsReached from folder → (IsCovered best folder → ⊥) → IsPassed packages name folder
    passed_at folder reached none = by_kind (is_modules folder) refl where
      by_found : is_modules folder ≡ false → (o : Option Package) → package_at packages (place_in folder name) ≡ o
          → IsPassed packages name folder
      by_found no_modules None is = inr (inr is)
      by_found no_modules (Some found) is = absurd (none
          (nearest.nearest folder found reached (record { plain = plain; no_modules = no_modules; found = is })))

      by_kind : (b : Bool) → is_modules folder ≡ b → IsPassed packages name folder
      by_kind true is = inr (inl is)
      by_kind false is = by_found is _ refl

    pub found_by : IsFound packages name from (option_map (λ h. package_value h.found) best)
    found_by = by_best best refl where
      by_best : (o : Option Hit) → best ≡ o → IsFound packages name from (option_map (λ h. package_value h.found) o)
      by_best None is = found_in_none packages name is_outermost.reached is_outermost.last
          (λ folder reached. passed_at folder reached (λ covered. cc (is, covered.1)))
      by_best (Some h) is =
          let hit : IsHit packages from name h = rw is at nearest.hit in
          found_in_nearest packages name hit.reached (package_value h.found) hit.found
          (λ nearer reached long. passed_at nearer reached (λ covered.
          let same : covered.0 ≡ h = cc (is, covered.1) in
          let short : length nearer ≤ length h.folder.now = rw same at covered.2 in
          absurd (omega (arith, long, short))))

    pub own_by : (h : Hit) → best ≡ Some h
        → (length h.folder.now ≡ length from) ↔ IsFoundIn packages name from (package_value h.found)
    own_by h is =
        let hit : IsHit packages from name h = rw is at nearest.hit in (
          (λ same.
              let here : h.folder.now ≡ from = reached_same hit.reached (omega (arith, same)) in
              rw here at hit.found),
          (λ own.
              let covered = nearest.nearest from (package_value h.found) (itself from) own in
              let same : covered.0 ≡ h = cc (is, covered.1) in
              let long : length from ≤ length h.folder.now = rw same at covered.2 in
              omega (arith, long, reached_shorter hit.reached)),
        )

pub equal_lengths : (m n : ℕ) {P : Type 0} → ((m ≡ n) ↔ P) → IsTrue (nat_eq m n) ↔ P
equal_lengths m n means =
    ((λ yes. means.0 ((Decides-eqb m n).0 yes)), (λ holds. (Decides-eqb m n).1 (means.1 holds)))

-- a name that is not plain is found nowhere
pub not_plain : (packages : Data) (from outermost name : List ℕ) → IsOutermostFrom from outermost → ¬ IsPlain name
    → IsFound packages name from None
not_plain packages from outermost name is_outermost none =
    found_in_none packages name is_outermost.reached is_outermost.last (λ folder reached. inl none)
