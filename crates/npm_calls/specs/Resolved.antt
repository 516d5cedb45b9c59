-- What a resolver answers for a manifest and packuments.
use Rattle.std.specs.Prelude.{◌≡◌, ◌≢◌, ⊤, ℕ, Bool, List, [], ◌∷◌, Ok, Err, false, if◌then◌else◌, length, map, option_map, true}
use Rattle.std.specs.Borrow.{Bor}
use Rattle.serde_json.specs.Data.{Data}
use Rattle.serde_json.specs.Find.{get}
use Rattle.serde_json.specs.View.{view}
use Rattle.serde_json.specs.declared.value.Value.{Value}
use Rattle.npm_pick_reports.specs.Loading.{Loads}
use Rattle.npm_pick_reports.specs.declared.load_error.LoadError.TheVariants.{Memory}
use Rattle.npm_resolve.specs.declared.candidates.options.Options.{Options}
use Rattle.npm_resolve.specs.declared.candidates.owner.Reach.{Reach}
use Rattle.npm_resolve.specs.declared.candidates.owner.Reach.TheVariants.{Dependencies, Peers}
use Rattle.npm_resolve.specs.Answers.{IsAnswer, chosen_value}
use Rattle.npm_resolve.specs.Documents.{AreDocumentsFor}
use Rattle.npm_resolve.specs.declared.answer.Answer.{Answer}
use Rattle.npm_resolve.specs.declared.answer.Chosen.{Chosen}
use Rattle.npm_resolve.specs.declared.answer.Resolution.{Resolution}
use Rattle.npm_resolve.specs.declared.answer.Resolution.TheVariants as Resolutions
use Rattle.npm_resolve.specs.declared.documents.Document.{Document}
use Rattle.npm_resolve_reports.specs.Locks.{AreLockLines}
use Rattle.npm_calls.specs.declared.resolved.Marks.{Marks}
use Rattle.npm_calls.specs.declared.resolved.Text.{Text}
use Rattle.npm_calls.specs.declared.resolved.Text.TheVariants.{Lock, Object}

-- The document of a package is the member of its name. A package whose name no member has, has no document.
abbrev pub Gives : (documents : Data) → Loads
Gives documents name (Ok document) = option_map view document ≡ get name documents
Gives documents name (Err error) = error ≡ Memory

-- With `flat` the dependencies of versions count, and else only their peers.
abbrev pub reach_of : Marks → Reach
reach_of marks = if marks.flat then Dependencies else Peers

-- ---- the answer

-- the text is a JSON object, whose words are tested
abbrev pub IsObject : Text → Type 0
IsObject (Lock lines) = ⊥
IsObject (Object object) = ⊤

-- the lock file of what is selected, and a JSON object if a rule in `overrides` is not read
abbrev pub IsFileOr : List Value → List Document → List Chosen → (unread : List (Bor (List ℕ))) → Text → Type 0
IsFileOr manifests documents chosen unread (Lock lines) =
    (length unread ≡ 0) × AreLockLines manifests documents (map chosen_value chosen) lines.items
IsFileOr manifests documents chosen unread (Object object) = length unread ≢ 0

-- There is a lock file if one is asked for and versions are selected.
abbrev pub IsTextIn : (lockfile : Bool) → List Value → List Document → Resolution → (unread : List (Bor (List ℕ))) → Text → Type 0
IsTextIn false manifests documents resolution unread text = IsObject text
IsTextIn true manifests documents (Resolutions.Selected chosen) unread text = IsFileOr manifests documents chosen.items unread text
IsTextIn true manifests documents (Resolutions.NoSelection blamed) unread text = IsObject text
IsTextIn true manifests documents Resolutions.Undecided unread text = IsObject text

abbrev pub IsTextOf : (lockfile : Bool) → List Value → List Document → Answer → Text → Type 0
IsTextOf lockfile manifests documents answer text = IsTextIn lockfile manifests documents answer.resolution answer.unread.items text

-- The text is that of an answer, for the documents that are needed.
pub record IsTextFor (manifest : Value) (documents : Data) (options : Options) (marks : Marks) (text : Text) : Type 0 where
  pub found : List Document
  pub needed : AreDocumentsFor (Gives documents) (manifest ∷ []) options (reach_of marks) marks.omits found
  pub answer : Answer
  pub answered : IsAnswer (manifest ∷ []) found options (reach_of marks) marks.omits answer
  pub text_is : IsTextOf marks.lockfile (manifest ∷ []) found answer text
