-- The lock file of a selection has no problem.
use Rattle.std.proofs.Common.{ℕ, List, map}
use Rattle.serde_json.specs.View.{view}
use Rattle.serde_json.specs.declared.value.Value.{Value}
use Rattle.npm_texts.specs.RegistrySpec.{RegistrySpecValue}
use Rattle.npm_texts.specs.SpecLaws.{IsAskedAsWritten}
use Rattle.npm_resolve.specs.declared.candidates.options.Options.{Options}
use Rattle.npm_resolve.specs.declared.candidates.owner.Reach.TheVariants.{Dependencies}
use Rattle.npm_resolve.specs.Answers.{ChosenValue, IsAnswer}
use Rattle.npm_resolve.specs.Texts.{text}
use Rattle.npm_resolve.specs.declared.answer.Answer.{Answer}
use Rattle.npm_resolve.specs.declared.answer.Resolution.{Resolution}
use Rattle.npm_resolve.specs.declared.answer.Resolution.TheVariants as Resolutions
use Rattle.npm_resolve.specs.declared.documents.Document.{Document}
use Rattle.npm_resolve_reports.specs.Locks.{all_installed}
use Rattle.npm_resolve_laws.specs.Ordinary.{nothing_omitted}
use Rattle.npm_resolve_laws.specs.Selected.{IfSelected, IsSound}
use Rattle.npm_resolve_laws.specs.Whole.{HasSoundLock}
use Rattle.npm_resolve_laws.proofs.Edges.{OneSpec, nothing_wrong}
use Rattle.npm_resolve_laws.proofs.Installing.{are_met}
use Rattle.npm_resolve_laws.proofs.Lists.{item_of}
use Rattle.npm_resolve_laws.proofs.Ranges.{ReadBack}
use Rattle.npm_resolve_laws.proofs.Selections.{answer_is_sound}

module _ (read_back : ReadBack) (one_spec : OneSpec) (as_written : (name spec : List ℕ) (one : RegistrySpecValue) → IsAskedAsWritten name spec one)
    (manifests : List Value) (documents : List Document) (options : Options) where
  sound_lock : (unmet : List (List ℕ)) (selected : List ChosenValue) → IsSound manifests documents options Dependencies nothing_omitted unmet selected
      → HasSoundLock manifests documents selected
  sound_lock unmet selected sound root lines problems first ordinary file checked =
      nothing_wrong one_spec (view root) file.lock (all_installed documents selected) problems
      (are_met read_back one_spec as_written manifests documents options unmet selected sound ordinary.ordered root first ordinary)
      file.is checked

  pub no_problems : (answer : Answer) → IsAnswer manifests documents options Dependencies nothing_omitted answer
      → IfSelected answer.resolution (HasSoundLock manifests documents)
  no_problems answer is = by_resolution answer.resolution
      (answer_is_sound manifests documents options Dependencies nothing_omitted answer is) where
        by_resolution : (r : Resolution) → IfSelected r (IsSound manifests documents options Dependencies nothing_omitted (map text answer.unmet.items))
            → IfSelected r (HasSoundLock manifests documents)
        by_resolution (Resolutions.Selected chosen) sound = sound_lock _ _ sound
        by_resolution (Resolutions.NoSelection conflict) none = tt
        by_resolution Resolutions.Undecided unknown = tt
