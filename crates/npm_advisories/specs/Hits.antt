-- Which advisories hit an installed version.
use Rattle.std.specs.Prelude.{◌≡◌, List, [], ◌∷◌, Option, Some, None, true}
use Rattle.node_semver.specs.Versions.{IsPrerelease, VersionValue}
use Rattle.npm_advisories.specs.Advisories.{AboutValue, AdvisoryValue, Affected, Affects}
use Rattle.npm_advisories.specs.Severities.{is_at_least}
use Rattle.npm_advisories.specs.declared.severity.Severity.{Severity}

-- the elements of a list for which something holds, in the list's order, each by its value
pub data AreKept {A B : Type 0} (Holds : A → Type 0) (seen : A → B) : List A → List B → Type 0 where
  none : AreKept Holds seen [] []
  kept : (x : A) (xs : List A) (ys : List B) → Holds x → AreKept Holds seen xs ys
      → AreKept Holds seen (x ∷ xs) (seen x ∷ ys)
  left : (x : A) (xs : List A) (ys : List B) → ¬ Holds x → AreKept Holds seen xs ys → AreKept Holds seen (x ∷ xs) ys

-- What is known of the version of an installed package: what its text is read as, or nothing, if the package has no version
pub data Known : Type 0 where
  said : Option VersionValue → Known
  unsaid : Known

-- the advisory is about each release: `*`, and `>=0.0.0`, which is not about 0.0.0-1
abbrev pub IsAboutEach : Affected → Type 0
IsAboutEach affected = (v : VersionValue) → ¬ IsPrerelease v → Affects affected v

-- The advisory is about the installed version. If its text is no version, nobody knows whether it is one of those, and so
-- each advisory is about it. If there is no version, as in a folder that was never published, those about each release are
abbrev pub IsAbout : Affected → Known → Type 0
IsAbout affected (said (Some v)) = Affects affected v
IsAbout affected (said None) = Unit {0}
IsAbout affected unsaid = IsAboutEach affected

-- the advisory is about the installed version, and not less severe than the level
pub record IsHit (level : Severity) (installed : Known) (advisory : AdvisoryValue) : Type 0 where
  pub severe : is_at_least level advisory.about.severity ≡ true
  pub affects : IsAbout advisory.affected installed

-- what the advisories that hit the installed version say of themselves, in the order of the list
abbrev pub AreHits : (level : Severity) → Known → List AdvisoryValue → List AboutValue → Type 0
AreHits level installed advisories hits = AreKept (IsHit level installed) (λ advisory. advisory.about) advisories hits
