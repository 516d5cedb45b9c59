-- What is asked of a selection is answered: each dependency that counts has a selected version that its spec allows, or needs none.
use Rattle.npm_resolve.specs.Rules.{rules_of}
use Rattle.std.specs.Prelude.{◌≡◌, ◌≢◌, ◌||◌, ⊤, ℕ, List, [], Some, bytes_eq, false, map, true}
use Rattle.std.specs.List.{All, Contains}
use Rattle.serde_json.specs.Data.{Data}
use Rattle.serde_json.specs.View.{view}
use Rattle.serde_json.specs.declared.value.Value.{Value}
use Rattle.npm_texts.specs.RegistrySpec.{RegistrySpecValue, registry_spec}
use Rattle.npm_resolve.specs.Asks.{AskValue, RulesValue, asks_on, is_registered}
use Rattle.npm_resolve.specs.Locked.{AreOffered}
use Rattle.npm_resolve.specs.Meanings.{IsAdmitted, IsMeaning, MeaningValue}
use Rattle.npm_resolve.specs.declared.candidates.candidate.Candidate.{Candidate}
use Rattle.npm_resolve.specs.declared.candidates.options.Omits.{Omits}
use Rattle.npm_resolve.specs.declared.candidates.options.Options.{Options}
use Rattle.npm_resolve.specs.declared.candidates.owner.Owner.{Owner}
use Rattle.npm_resolve.specs.declared.candidates.owner.Owner.TheVariants.{Root, Version}
use Rattle.npm_resolve.specs.declared.candidates.owner.Reach.{Reach}
use Rattle.npm_resolve.specs.Answers.{ChosenValue, chosen_value}
use Rattle.npm_resolve.specs.Optional.{is_required_in}
use Rattle.npm_resolve.specs.declared.answer.Resolution.{Resolution}
use Rattle.npm_resolve.specs.declared.answer.Resolution.TheVariants as Resolutions
use Rattle.npm_resolve.specs.declared.documents.Document.{Document}
use Rattle.npm_resolve_reports.specs.Locks.{packument_of}

-- A selected version is this candidate of the document of its name.
pub record IsSelectedFrom (documents : List Document) (options : Options) (one : ChosenValue) (packument : Data) (candidate : Candidate)
    : Type 0 where
  pub document : packument_of documents one.name ≡ Some packument
  pub candidates : List Candidate
  pub are : AreOffered one.name packument options candidates
  pub there : Contains candidates candidate
  pub key : candidate.key.now ≡ one.key

-- The spec allows the selected version: it asks for the package of the version or, as a spec that is no alias, for the name itself; and its
-- text admits the candidate.
pub record IsAllowedBy (documents : List Document) (options : Options) (spec : List ℕ) (one : ChosenValue) : Type 0 where
  pub packument : Data
  pub candidate : Candidate
  pub selected : IsSelectedFrom documents options one packument candidate
  pub request : RegistrySpecValue
  pub asks : registry_spec one.name spec ≡ Some request
  pub of_package : (bytes_eq request.name one.of_package || bytes_eq request.name one.name) ≡ true
  pub meaning : MeaningValue
  pub means : IsMeaning packument options.before request.text meaning
  pub admitted : IsAdmitted meaning candidate

-- What is asked of a name is answered: a version is selected for it that the spec allows; or none is, and none need be: it is not needed, or
-- its name is among those of optional dependencies that no version meets.
pub data IsAnswered (documents : List Document) (options : Options) (selected : List ChosenValue) (unmet : List (List ℕ)) (manifest : Data)
    (ask : AskValue)
    : Type 0 where
  allowed : (one : ChosenValue) → Contains selected one → one.name ≡ ask.name → IsAllowedBy documents options ask.spec one
      → IsAnswered documents options selected unmet manifest ask
  unneeded : ask.needed ≡ false → ((one : ChosenValue) → Contains selected one → one.name ≢ ask.name)
      → IsAnswered documents options selected unmet manifest ask
  unmet_option : Contains unmet ask.name → is_required_in manifest ask.name ≡ false
      → ((one : ChosenValue) → Contains selected one → one.name ≢ ask.name) → IsAnswered documents options selected unmet manifest ask

-- all that a manifest asks a registry for is, as the rules of the root change it
abbrev pub AreAnswered : List Document → Options → List ChosenValue → (unmet : List (List ℕ)) → (manifest : Data) → Owner → RulesValue
    → Omits → Type 0
AreAnswered documents options selected unmet manifest owner rules omits = (name : List ℕ) (ask : AskValue)
    → Contains (asks_on manifest owner rules omits name) ask → is_registered ask ≡ true
    → IsAnswered documents options selected unmet manifest ask

-- all that a selected version asks is
pub record IsAnsweredFor (documents : List Document) (options : Options) (reach : Reach) (rules : RulesValue) (omits : Omits) (selected : List ChosenValue)
    (one : ChosenValue)
    : Type 0 where
  pub packument : Data
  pub candidate : Candidate
  pub from : IsSelectedFrom documents options one packument candidate
  pub answered : AreAnswered documents options selected [] (view candidate.manifest.now) (Version reach) rules omits

-- Each name has one version at most, and all that the manifests and the selected versions ask is answered, where these are the names of
-- optional dependencies that no version meets.
pub record IsSound (manifests : List Value) (documents : List Document) (options : Options) (reach : Reach) (omits : Omits)
    (unmet : List (List ℕ)) (selected : List ChosenValue)
    : Type 0 where
  pub once : (one other : ChosenValue) → Contains selected one → Contains selected other → one.name ≡ other.name → one ≡ other
  pub of_manifests : All (λ (manifest : Value). AreAnswered documents options selected unmet (view manifest) Root (rules_of manifests) omits)
      manifests
  pub of_versions : All (IsAnsweredFor documents options reach (rules_of manifests) omits selected) selected

-- what is selected is so, if something is
abbrev pub IfSelected : Resolution → (List ChosenValue → Type 0) → Type 0
IfSelected (Resolutions.Selected chosen) IsSo = IsSo (map chosen_value chosen.items)
IfSelected (Resolutions.NoSelection conflict) IsSo = ⊤
IfSelected Resolutions.Undecided IsSo = ⊤
