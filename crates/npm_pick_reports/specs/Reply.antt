-- The reply to a question, and how the program ends.
use Rattle.std.specs.Prelude.{ℕ, List, Bool, Err, Ok, Option, count_by, map, option_map}
use Rattle.std.specs.List.{AllZip, list_all, list_any}
use Rattle.serde_json.specs.Data.{Data}
use Rattle.serde_json.specs.View.{view}
use Rattle.npm_packages.specs.Edges.{AreLockEdges, EdgeValue}
use Rattle.npm_texts.specs.RangeText.{filled}
use Rattle.npm_texts.specs.RegistrySpec.{RegistrySpecValue}
use Rattle.npm_pick.specs.Pick.{IsPicked, PickedValue, picked_value}
use Rattle.npm_pick.specs.declared.error.PickError.{PickError}
use Rattle.npm_pick.specs.declared.options.Options.{Options}
use Rattle.npm_pick_reports.specs.Asks.{AreAsks, AskValue}
use Rattle.npm_pick_reports.specs.Installed.{AreInstalledIfAny}
use Rattle.npm_pick_reports.specs.Loading.{Loads}
use Rattle.npm_pick_reports.specs.Mirror.{IsMirror, PackageValue, is_complete, package_value, requests_of}
use Rattle.npm_pick_reports.specs.Outdated.{IsOutcome, OutcomeValue, is_absent, is_outdated, outcome_value}
use Rattle.npm_pick_reports.specs.declared.reply.Ending.{Ending}
use Rattle.npm_pick_reports.specs.declared.reply.Ending.TheVariants as Endings
use Rattle.npm_pick_reports.specs.declared.reply.Question.{Question}
use Rattle.npm_pick_reports.specs.declared.reply.Question.TheVariants as Questions
use Rattle.npm_pick_reports.specs.declared.reply.Reply.{Reply}
use Rattle.npm_pick_reports.specs.declared.reply.Reply.TheVariants as Replies

-- the version that is picked; the reason why none is; the outcome of each dependency; or what a mirror keeps of each package
pub data ReplyValue : Type 0 where
  picked : PickedValue → ReplyValue
  nothing : PickError → ReplyValue
  compared : List OutcomeValue → ReplyValue
  kept : List PackageValue → ReplyValue

-- the version that npm would install, or the reason why there is none; the empty text is `*`
pub data IsPickedReply (packument : Data) (options : Options) (wanted : List ℕ) : ReplyValue → Type 0 where
  some : (version : PickedValue) → IsPicked packument options (filled wanted) (Ok version)
      → IsPickedReply packument options wanted (picked version)
  none : (error : PickError) → IsPicked packument options (filled wanted) (Err error)
      → IsPickedReply packument options wanted (nothing error)

-- the outcome of each dependency of the lock file
pub data IsComparedReply (Gives : Loads) (lock : Data) (all : Bool) (options : Options) : ReplyValue → Type 0 where
  of_lock : (edges : List EdgeValue) (outcomes : List OutcomeValue) → AreLockEdges lock edges
      → AllZip (IsOutcome Gives all options) edges outcomes → IsComparedReply Gives lock all options (compared outcomes)

-- Each version that a mirror keeps for these manifests and this lock file: those for the dependencies, and each that is
-- installed
pub data IsKeptReply (Gives : Loads) (manifests : List Data) (lock : Option Data) (all : Bool) (options : Options)
    : ReplyValue → Type 0 where
  of_all : (asks : List AskValue) (installed : List RegistrySpecValue) (packages : List PackageValue)
      → AreAsks manifests lock asks → AreInstalledIfAny lock installed
      → IsMirror Gives options all (requests_of asks) installed packages
      → IsKeptReply Gives manifests lock all options (kept packages)

-- the reply to a question, where `load` returns these documents
abbrev pub IsReply : Loads → Question → Options → ReplyValue → Type 0
IsReply Gives (Questions.Pick packument wanted) options reply =
    IsPickedReply (view packument.now) options wanted.now reply
IsReply Gives (Questions.Outdated lock all) options reply = IsComparedReply Gives (view lock.now) all options reply
IsReply Gives (Questions.Keep manifests lock all) options reply =
    IsKeptReply Gives (map view manifests.now) (option_map (λ lock. view lock.now) lock) all options reply

-- How the program ends: whether something is outdated, and how many dependencies have no document; or whether each package
-- that a mirror keeps has a document with all its installed versions
abbrev pub ending_of : ReplyValue → Ending
ending_of (picked version) = Endings.Picked
ending_of (nothing error) = Endings.Nothing error
ending_of (compared outcomes) = Endings.Compared (list_any is_outdated outcomes) (count_by is_absent outcomes)
ending_of (kept packages) = Endings.Kept (list_all is_complete packages)

-- what a contract sees of it
abbrev pub reply_value : Reply → ReplyValue
reply_value (Replies.Picked version) = picked (picked_value version)
reply_value (Replies.Nothing error) = nothing error
reply_value (Replies.Compared outcomes) = compared (map outcome_value outcomes.items)
reply_value (Replies.Kept packages notes) = kept (map package_value packages.items)
