-- A single wish: a root asks for one name, and the versions of its document ask for nothing.
use Rattle.std.specs.Prelude.{◌≡◌, ⊤, List, [], ◌∷◌, Err, None, Ok, Result, Some, map, string_bytes, true}
use Rattle.std.specs.List.{AllByRecursion}
use Rattle.serde_json.specs.View.{view}
use Rattle.serde_json.specs.declared.value.Value.{Value}
use Rattle.npm_texts.specs.RegistrySpec.{RegistrySpecValue, registry_spec}
use Rattle.npm_pick.specs.Pick.{PickedValue}
use Rattle.npm_pick.specs.declared.error.PickError.{PickError}
use Rattle.npm_resolve.specs.Asks.{AreAsks, AskValue, RulesValue}
use Rattle.npm_resolve.specs.Candidates.{AreCandidates}
use Rattle.npm_resolve.specs.Locked.{locked_of}
use Rattle.npm_resolve.specs.declared.candidates.candidate.Candidate.{Candidate}
use Rattle.npm_resolve.specs.declared.candidates.options.Omits.{Omits}
use Rattle.npm_resolve.specs.declared.candidates.options.Options.{Options}
use Rattle.npm_resolve.specs.declared.candidates.owner.Owner.TheVariants.{Version}
use Rattle.npm_resolve.specs.declared.candidates.owner.Reach.{Reach}
use Rattle.npm_resolve_laws.specs.Firsts.{IsVersion}
use Rattle.npm_resolve.specs.Answers.{chosen_value}
use Rattle.npm_resolve.specs.Rules.{rules_of}
use Rattle.npm_resolve.specs.Wishes.{AreWishes}
use Rattle.npm_resolve.specs.declared.answer.Chosen.{Chosen}
use Rattle.npm_resolve.specs.declared.answer.Resolution.{Resolution}
use Rattle.npm_resolve.specs.declared.answer.Resolution.TheVariants as Resolutions
use Rattle.npm_resolve.specs.declared.documents.Document.{Document}

-- ---- the wish

-- the manifest of a candidate asks a registry for nothing that counts
abbrev pub AsksNothing : Reach → RulesValue → Omits → Candidate → Type 0
AsksNothing reach rules omits c = (asks left_out : List AskValue)
    → AreAsks (view c.manifest.now) (Version reach) rules omits asks left_out → asks ≡ []

-- The manifests ask a registry for this alone, which is needed. The document is that of the package that it asks for, its candidates ask
-- for nothing, and the lock file of the options, if there is one, has no version for the name.
pub record IsSingleWish (manifests : List Value) (document : Document) (options : Options) (reach : Reach) (omits : Omits) (wish : AskValue)
    (request : RegistrySpecValue)
    : Type 0 where
  pub alone : (asks left_out : List AskValue) → AreWishes (rules_of manifests) omits manifests asks left_out → asks ≡ wish ∷ []
  pub needed : wish.needed ≡ true
  pub name : string_bytes document.name ≡ wish.name
  pub asks : registry_spec wish.name wish.spec ≡ Some request
  pub of_package : string_bytes document.package ≡ request.name
  pub nothing : (candidates : List Candidate) → AreCandidates (view document.packument) options candidates
      → AllByRecursion (AsksNothing reach (rules_of manifests) omits) candidates
  pub unlocked : locked_of options wish.name ≡ None

-- ---- the answer

-- The version that is picked is selected, and no other. A key that is no version is never selected.
abbrev pub SelectsPicked : AskValue → RegistrySpecValue → List Chosen → Result PickedValue PickError → Type 0
SelectsPicked wish request chosen (Ok picked) = IsVersion picked.key
    → map chosen_value chosen ≡ record { name = wish.name; of_package = request.name; key = picked.key } ∷ []
SelectsPicked wish request chosen (Err error) = ⊥

-- no version is picked
abbrev pub PicksNone : Result PickedValue PickError → Type 0
PicksNone (Ok picked) = ¬ IsVersion picked.key
PicksNone (Err error) = ⊤

-- Where versions are selected, it is the one that is picked; where no selection fits, none is picked; or neither is known.
abbrev pub IsAsPicked : AskValue → RegistrySpecValue → Result PickedValue PickError → Resolution → Type 0
IsAsPicked wish request answer (Resolutions.Selected chosen) = SelectsPicked wish request chosen.items answer
IsAsPicked wish request answer (Resolutions.NoSelection found) = PicksNone answer
IsAsPicked wish request answer Resolutions.Undecided = ⊤
