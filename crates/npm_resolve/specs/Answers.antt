-- What an answer says.
use Rattle.std.specs.Prelude.{◌≡◌, ⊤, ℕ, List, [], map, reverse, slice_get}
use Rattle.std.specs.Option.{IfSome, option_map_or}
use Rattle.serde_json.specs.declared.value.Value.{Value}
use Rattle.version_solving.specs.Documents.{problem_of}
use Rattle.version_solving.specs.Solving.{IsTheSelection, NoneFits}
use Rattle.version_solving.specs.declared.ask.Listed.{Listed}
use Rattle.version_solving.specs.declared.outcome.Choice.{Choice}
use Rattle.npm_resolve.specs.Asks.{ask_value}
use Rattle.npm_resolve.specs.declared.candidates.options.Omits.{Omits}
use Rattle.npm_resolve.specs.declared.candidates.options.Options.{Options}
use Rattle.npm_resolve.specs.declared.candidates.owner.Reach.{Reach}
use Rattle.npm_resolve.specs.Explanations.{IsConflict}
use Rattle.npm_resolve.specs.Instance.{IsInstance, key_of}
use Rattle.npm_resolve.specs.Missing.{missing_among}
use Rattle.npm_resolve.specs.Optional.{unmet_names}
use Rattle.npm_resolve.specs.Texts.{text}
use Rattle.npm_resolve.specs.Rules.{rules_of, unread_among}
use Rattle.npm_resolve.specs.declared.answer.Answer.{Answer}
use Rattle.npm_resolve.specs.declared.answer.Chosen.{Chosen}
use Rattle.npm_resolve.specs.declared.answer.Resolution.{Resolution}
use Rattle.npm_resolve.specs.declared.answer.Resolution.TheVariants as Resolutions
use Rattle.npm_resolve.specs.declared.documents.Document.{Document}
use Rattle.npm_resolve.specs.declared.instance.Offer.{Offer}
use Rattle.npm_resolve.specs.declared.posed.Posed.{Posed}

-- ---- choices

-- a version of a package, for a name
pub record ChosenValue : Type 0 where
  pub name : List ℕ
  pub of_package : List ℕ
  pub key : List ℕ

abbrev pub chosen_value : Chosen → ChosenValue
chosen_value chosen = record { name = chosen.name.now; of_package = chosen.package.now; key = chosen.key.now }

-- The version of a choice. A selection that fits has no choice of a name that is not there.
abbrev pub chosen_of : List Offer → Choice → ChosenValue
chosen_of offers choice = option_map_or
    (λ (offer : Offer). record { name = offer.name.now; of_package = offer.package.now; key = key_of offer choice.candidate })
    (slice_get offers choice.name) (record { name = []; of_package = []; key = [] })

-- ---- resolutions

-- The versions are those of the selection that version_solving defines; or no selection fits, and this is what cannot be met together, and
-- why; or neither is known.
abbrev pub IsResolution : Posed → Resolution → Type 0
IsResolution posed (Resolutions.Selected chosen) = (choices : List Choice)
    × IsTheSelection (problem_of posed.root.items posed.documents) (reverse choices)
    × (map chosen_value chosen.items ≡ map (chosen_of posed.offers.items) choices)
IsResolution posed (Resolutions.NoSelection found) = NoneFits (problem_of posed.root.items posed.documents) []
    × IfSome found (IsConflict posed)
IsResolution posed Resolutions.Undecided = ⊤

-- The resolution is that of the problem that the manifests and the documents pose. Of the names in it, those are told whose rule in
-- `overrides` is not read, those without a document that a version needs, and those of optional dependencies that no version meets.
pub record IsAnswer (manifests : List Value) (documents : List Document) (options : Options) (reach : Reach) (omits : Omits) (answer : Answer)
    : Type 0 where
  pub posed : Posed
  pub posing : IsInstance manifests documents options reach omits posed
  pub resolution : IsResolution posed answer.resolution
  pub left_out : posing.left_out ≡ map ask_value answer.left_out.items
  pub unread : map text answer.unread.items
      ≡ unread_among (rules_of manifests) (map (λ (one : Listed). one.name.now) posed.names.items)
  pub unmet : map text answer.unmet.items
      ≡ unmet_names manifests posed.names.items posed.documents.ranges.items posing.demands
  pub missing : map text answer.missing.items ≡ missing_among posing.listed (map (λ (one : Listed). one.name.now) posing.absent)
