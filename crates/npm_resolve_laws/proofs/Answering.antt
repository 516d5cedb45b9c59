-- A single wish is answered as npm picks.
use Rattle.std.proofs.Common.{◌≡◌, ◌∙◌, ◌<◌, ◌++◌, ◌∷◌, ℕ, List, [], true, Ok, Err, Result, Some, ap, length, map, reverse, subst, sym}
use Rattle.std.proofs.lemmas.List.{reverse-reverse}
use Rattle.std.specs.Option.{option_map_or}
use Rattle.std.specs.Prelude.{slice_get}
use Rattle.version_solving.specs.Documents.{problem_of}
use Rattle.version_solving.specs.Solving.{IsTheSelection, NoneFits, Problem}
use Rattle.version_solving.specs.declared.outcome.Choice.{Choice}
use Rattle.npm_texts.specs.RegistrySpec.{RegistrySpecValue}
use Rattle.npm_pick.specs.Pick.{PickedValue}
use Rattle.npm_pick.specs.declared.error.PickError.{PickError}
use Rattle.npm_resolve.specs.Asks.{AskValue}
use Rattle.npm_resolve.specs.declared.candidates.candidate.Candidate.{Candidate}
use Rattle.npm_resolve.specs.declared.candidates.options.Options.{Options}
use Rattle.npm_resolve_laws.specs.Firsts.{AgreesWith, IsPickedFirst}
use Rattle.npm_resolve.specs.Answers.{ChosenValue, IsResolution, chosen_of, chosen_value}
use Rattle.npm_resolve.specs.Instance.{AreAllowed}
use Rattle.npm_resolve.specs.declared.answer.Chosen.{Chosen}
use Rattle.npm_resolve.specs.declared.answer.Resolution.{Resolution}
use Rattle.npm_resolve.specs.declared.answer.Resolution.TheVariants as Resolutions
use Rattle.npm_resolve.specs.declared.documents.Document.{Document}
use Rattle.npm_resolve_laws.specs.Single.{IsAsPicked, PicksNone, SelectsPicked}
use Rattle.npm_resolve_laws.proofs.Choosing.{IsOne, none_allowed, one_choice}
use Rattle.npm_resolve_laws.proofs.Places.{at_place, is_allowed, no_place, some_place}
use Rattle.npm_resolve_laws.proofs.WishPosing.{IsPosedAlone, key_at}

module _ (p : Problem) (value_of : Choice → ChosenValue) (document : Document) (options : Options) (wish : AskValue)
    (request : RegistrySpecValue) (at : IsPosedAlone p value_of document options wish request) where
  abbrev one : List Choice → Type 0
  one = IsOne p at.demand at.alone at.needed at.nothing

  abbrev Agrees : Result PickedValue PickError → Type 0
  Agrees = AgreesWith at.meaning at.candidates

  -- ---- a version is selected

  module _ (choices : List Choice) (chosen : one (reverse choices)) where
    choices_are : choices ≡ record { name = at.demand.name; candidate = chosen.candidate } ∷ []
    choices_are = sym (reverse-reverse choices) ∙ ap reverse chosen.are

    is_allowed_there : is_allowed at.allowed chosen.candidate ≡ true
    is_allowed_there = sym (at.allows chosen.candidate) ∙ chosen.allowed

    no_better : (better : ℕ) → better < chosen.candidate → is_allowed at.allowed better ≡ true → ⊥
    no_better better below allowed = chosen.first better below (at.allows better ∙ allowed)

    key_is : (picked : PickedValue) → IsPickedFirst at.meaning at.candidates picked → key_at at.candidates chosen.candidate ≡ picked.key
    key_is picked first =
        let there : slice_get (first.is.before ++ first.first ∷ first.is.after) chosen.candidate ≡ Some first.first =
        at_place at.meaning first.is.before first.is.after first.first at.allowed
        (subst (λ cs. AreAllowed at.meaning cs at.allowed) first.is.parts at.each) first.is.others first.is.admitted chosen.candidate
        is_allowed_there no_better in
        let found : slice_get at.candidates chosen.candidate ≡ Some first.first =
        subst (λ cs. slice_get cs chosen.candidate ≡ Some first.first) (sym first.is.parts) there in
        ap (λ found. option_map_or (λ (c : Candidate). c.key.now) found []) found ∙ first.key

    value_is : (key : List ℕ) → key_at at.candidates chosen.candidate ≡ key
        → map value_of choices ≡ record { name = wish.name; of_package = request.name; key = key } ∷ []
    value_is key is = ap (map value_of) choices_are
        ∙ ap (λ v. v ∷ []) (at.value chosen.candidate ∙ (λ i. record { name = wish.name; of_package = request.name; key = is i }))

    selects : (values : List Chosen) (picked : Result PickedValue PickError) → map chosen_value values ≡ map value_of choices
        → Agrees picked → SelectsPicked wish request values picked
    selects values (Ok picked) are agrees = λ version. are ∙ value_is picked.key (key_is picked (agrees version))
    selects values (Err error) are agrees = no_place at.meaning at.candidates at.allowed at.each agrees chosen.candidate is_allowed_there

  pub selected : (choices : List Choice) → IsTheSelection p (reverse choices) → (values : List Chosen) (picked : Result PickedValue PickError)
      → map chosen_value values ≡ map value_of choices → Agrees picked → SelectsPicked wish request values picked
  selected choices is = selects choices (one_choice p at.demand at.alone at.needed at.nothing (reverse choices) is)

  -- ---- no selection fits

  not_rejected : NoneFits p [] → (picked : PickedValue) → IsPickedFirst at.meaning at.candidates picked → ⊥
  not_rejected none picked first =
      let place = some_place at.meaning first.is.before first.is.after first.first at.allowed
      (subst (λ cs. AreAllowed at.meaning cs at.allowed) first.is.parts at.each) first.is.admitted in
      none_allowed p at.demand at.alone at.needed at.nothing none place.0
      (subst (λ n. place.0 < n) (sym (at.count ∙ ap length first.is.parts)) place.1) (at.allows place.0 ∙ place.2)

  pub rejected : NoneFits p [] → (picked : Result PickedValue PickError) → Agrees picked → PicksNone picked
  rejected none (Ok picked) agrees = λ version. not_rejected none picked (agrees version)
  rejected none (Err error) agrees = tt

pub as_picked : (posed : _) (resolution : Resolution) → IsResolution posed resolution → (document : Document) (options : Options)
    (wish : AskValue) (request : RegistrySpecValue)
    (at : IsPosedAlone (problem_of posed.root.items posed.documents) (chosen_of posed.offers.items) document options wish request)
    (picked : Result PickedValue PickError) → AgreesWith at.meaning at.candidates picked → IsAsPicked wish request picked resolution
as_picked posed (Resolutions.Selected chosen) is document options wish request at picked agrees =
    selected (problem_of posed.root.items posed.documents) (chosen_of posed.offers.items) document options wish request at is.0 is.1
    chosen.items picked is.2 agrees
as_picked posed (Resolutions.NoSelection found) is document options wish request at picked agrees =
    rejected (problem_of posed.root.items posed.documents) (chosen_of posed.offers.items) document options wish request at is.0 picked agrees
as_picked posed Resolutions.Undecided is document options wish request at picked agrees = tt
