-- Why a question has no reply.
use Rattle.std.specs.Prelude.{◌≡◌, ◌⊎◌, Bool, List, Option, Some, map, option_map}
use Rattle.serde_json.specs.Data.{Data}
use Rattle.serde_json.specs.View.{view}
use Rattle.npm_packages.specs.Edges.{AreLockEdges, EdgeValue}
use Rattle.npm_pick_reports.specs.Loading.{IsLoadFailure, IsLockFailure, Loads}
use Rattle.npm_pick_reports.specs.declared.run_error.RunError.{RunError}
use Rattle.npm_pick_reports.specs.declared.run_error.RunError.TheVariants.{Memory}
use Rattle.npm_texts.specs.RegistrySpec.{RegistrySpecValue}
use Rattle.npm_pick_reports.specs.Asks.{AreAsks, AskValue}
use Rattle.npm_pick_reports.specs.Installed.{AreInstalledIfAny}
use Rattle.npm_pick_reports.specs.Mirror.{IsNeededFor, requests_of}
use Rattle.npm_pick_reports.specs.Outdated.{IsNeededForOne}
use Rattle.npm_pick_reports.specs.declared.reply.Question.{Question}
use Rattle.npm_pick_reports.specs.declared.reply.Question.TheVariants as Questions

-- the document of a package was not loaded that a dependency of this lock file asks for
abbrev pub IsComparedFailure : Loads → (lock : Data) → (all : Bool) → RunError → Type 0
IsComparedFailure Gives lock all error = (edges : List EdgeValue) × AreLockEdges lock edges
    × IsLoadFailure (IsNeededForOne all edges) Gives error

-- the document of a package was not loaded that a dependency of these manifests or of this lock file asks for, or of which
-- a version is installed
abbrev pub IsKeptFailure : Loads → (manifests : List Data) → (lock : Option Data) → RunError → Type 0
IsKeptFailure Gives manifests lock error = (asks : List AskValue) × (installed : List RegistrySpecValue)
    × AreAsks manifests lock asks × AreInstalledIfAny lock installed
    × IsLoadFailure (IsNeededFor (requests_of asks) installed) Gives error

-- an allocation failed; or, if the question has a lock file, that has a fault; or, if it needs documents of packages,
-- one of those was not loaded
abbrev pub IsFailure : Loads → Question → RunError → Type 0
IsFailure Gives (Questions.Pick packument wanted) error = error ≡ Memory
IsFailure Gives (Questions.Outdated lock all) error =
    IsLockFailure (Some (view lock.now)) error ⊎ IsComparedFailure Gives (view lock.now) all error
IsFailure Gives (Questions.Keep manifests lock all) error =
    IsLockFailure (option_map (λ lock. view lock.now) lock) error
    ⊎ IsKeptFailure Gives (map view manifests.now) (option_map (λ lock. view lock.now) lock) error
