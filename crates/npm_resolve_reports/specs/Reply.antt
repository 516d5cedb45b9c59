-- What is written for a question, and how the program ends.
use Rattle.std.specs.Prelude.{◌≡◌, ◌==◌, ◌&&◌, ⊤, ℕ, List, [], Bool, false, if◌then◌else◌, length, map, not, true}
use Rattle.std.specs.Bool.{MatchBool}
use Rattle.npm_pick_reports.specs.Loading.{Loads}
use Rattle.serde_json.specs.declared.value.Value.{Value}
use Rattle.npm_pick_reports.specs.Loading.{IsLoadFailure}
use Rattle.npm_pick_reports.specs.declared.run_error.RunError.{RunError}
use Rattle.npm_resolve.specs.Answers.{IsAnswer, chosen_value}
use Rattle.npm_resolve.specs.Documents.{AreDocumentsFor}
use Rattle.npm_resolve.specs.Texts.{text}
use Rattle.npm_resolve.specs.declared.answer.Answer.{Answer}
use Rattle.npm_resolve.specs.declared.answer.Resolution.{Resolution}
use Rattle.npm_resolve.specs.declared.answer.Resolution.TheVariants as Resolutions
use Rattle.npm_resolve.specs.declared.documents.Document.{Document}
use Rattle.npm_resolve_reports.specs.Locks.{AreLockLines}
use Rattle.npm_resolve_reports.specs.declared.format.Format.{Format}
use Rattle.npm_resolve_reports.specs.declared.format.Format.TheVariants.{Json, Lock, Text}
use Rattle.npm_resolve_reports.specs.declared.reply.Done.{Done}
use Rattle.npm_resolve_reports.specs.declared.reply.Ending.{Ending}
use Rattle.npm_resolve_reports.specs.declared.reply.Ending.TheVariants.{NoSelection, Selected, Undecided, Unread}
use Rattle.npm_resolve_reports.specs.declared.reply.Question.{Question}
use Rattle.npm_resolve_reports.specs.declared.reply.Reply.{Reply}

-- the lines for standard output, and how the program ends
pub record ReplyValue : Type 0 where
  pub lines : List ℕ
  pub ending : Ending

-- the lock file of what is selected
abbrev pub AreFileLines : List Value → List Document → Resolution → (lines : List ℕ) → Type 0
AreFileLines manifests documents (Resolutions.Selected chosen) lines =
    AreLockLines manifests documents (map chosen_value chosen.items) lines
AreFileLines manifests documents (Resolutions.NoSelection blamed) lines = ⊤
AreFileLines manifests documents Resolutions.Undecided lines = ⊤

-- The lines of a resolution. Rows test those that are no lock file.
abbrev pub AreLines : Format → List Value → List Document → Resolution → (lines : List ℕ) → Type 0
AreLines Text manifests documents resolution lines = ⊤
AreLines Json manifests documents resolution lines = ⊤
AreLines Lock manifests documents resolution lines = AreFileLines manifests documents resolution lines

abbrev pub ending_of : Resolution → Ending
ending_of (Resolutions.Selected chosen) = Selected
ending_of (Resolutions.NoSelection blamed) = NoSelection
ending_of Resolutions.Undecided = Undecided

-- A lock file is asked for of what is selected, and a rule in `overrides` is not read. npm reads it, so `npm ci` would refuse the file.
abbrev pub is_lock : Format → Bool
is_lock Text = false
is_lock Json = false
is_lock Lock = true

abbrev pub is_unread : Format → Resolution → (unread : List (List ℕ)) → Bool
is_unread format (Resolutions.Selected chosen) unread = is_lock format && not (length unread == 0)
is_unread format (Resolutions.NoSelection blamed) unread = false
is_unread format Resolutions.Undecided unread = false

-- The reply to a question, where `load` returns these documents: all documents that are needed are read, and the lines are those of the
-- answer for them. There are none where a lock file is asked for and rules are not read.
pub record IsReply (Gives : Loads) (question : Question) (format : Format) (reply : ReplyValue) : Type 0 where
  pub documents : List Document
  pub read : AreDocumentsFor Gives question.manifests.now question.options question.reach question.omits documents
  pub answer : Answer
  pub answered : IsAnswer question.manifests.now documents question.options question.reach question.omits answer
  pub lines : MatchBool (is_unread format answer.resolution (map text answer.unread.items)) (reply.lines ≡ [])
      (AreLines format question.manifests.now documents answer.resolution reply.lines)
  pub ending : reply.ending
      ≡ (if is_unread format answer.resolution (map text answer.unread.items) then Unread else ending_of answer.resolution)

-- the document of a package was not read, or an allocation failed
abbrev pub IsFailure : Loads → RunError → Type 0
IsFailure Gives error = IsLoadFailure (λ name. Unit {0}) Gives error

-- what a contract sees of it
abbrev pub done_value : (lines : List ℕ) → Done → ReplyValue
done_value lines done = record { lines = lines; ending = done.ending }

abbrev pub reply_value : Reply → ReplyValue
reply_value reply = done_value reply.lines.items reply.done
