-- The first candidate that a meaning admits, and the version that is picked.
use Rattle.std.specs.Prelude.{◌≡◌, ◌++◌, ◌∷◌, ℕ, List, Err, Ok, Result}
use Rattle.std.specs.List.{AllByRecursion}
use Rattle.serde_json.specs.View.{view}
use Rattle.node_semver.specs.Versions.{VersionValue}
use Rattle.npm_texts.specs.InstalledVersions.{IsInstalledVersion}
use Rattle.npm_pick.specs.Pick.{PickedValue}
use Rattle.npm_pick.specs.declared.error.PickError.{PickError}
use Rattle.npm_resolve.specs.Meanings.{IsAdmitted, MeaningValue}
use Rattle.npm_resolve.specs.declared.candidates.candidate.Candidate.{Candidate}

-- none of these candidates is admitted
abbrev pub AdmitsNone : MeaningValue → List Candidate → Type 0
AdmitsNone meaning = AllByRecursion (λ (c : Candidate). ¬ IsAdmitted meaning c)

-- the first of these candidates that is admitted
pub record IsFirstAdmitted (meaning : MeaningValue) (candidates : List Candidate) (first : Candidate) : Type 0 where
  pub before : List Candidate
  pub after : List Candidate
  pub parts : candidates ≡ before ++ first ∷ after
  pub admitted : IsAdmitted meaning first
  pub others : AdmitsNone meaning before

-- the text is a version
abbrev pub IsVersion : (text : List ℕ) → Type 0
IsVersion text = (v : VersionValue) × IsInstalledVersion text v

-- the first candidate that is admitted is the version that is picked
pub record IsPickedFirst (meaning : MeaningValue) (candidates : List Candidate) (picked : PickedValue) : Type 0 where
  pub first : Candidate
  pub is : IsFirstAdmitted meaning candidates first
  pub key : first.key.now ≡ picked.key
  pub manifest : view first.manifest.now ≡ picked.manifest

-- If a pick returns a version, that is the first candidate that is admitted; and if it returns none, no candidate is admitted. A key that is
-- no version is left out: it is no candidate, though a pick returns it where a tag names it.
abbrev pub AgreesWith : MeaningValue → List Candidate → Result PickedValue PickError → Type 0
AgreesWith meaning candidates (Ok picked) = IsVersion picked.key → IsPickedFirst meaning candidates picked
AgreesWith meaning candidates (Err error) = AdmitsNone meaning candidates
