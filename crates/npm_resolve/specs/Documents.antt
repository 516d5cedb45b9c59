-- Which documents are needed: those of the names that the manifests ask for, and of the names that the candidates of these documents ask
-- for, as deep as they go.
use Rattle.std.specs.Prelude.{◌≡◌, ◌++◌, ◌⊎◌, ℕ, List, Err, None, Ok, Some, flat_map, string_bytes, true}
use Rattle.std.specs.List.{All, AllZip, Contains}
use Rattle.serde_json.specs.View.{view}
use Rattle.serde_json.specs.declared.value.Value.{Value}
use Rattle.npm_texts.specs.RegistrySpec.{RegistrySpecValue, registry_spec}
use Rattle.npm_resolve.specs.Asks.{AreAsks, AskValue, RulesValue, is_registered}
use Rattle.npm_resolve.specs.Candidates.{AreCandidates}
use Rattle.npm_resolve.specs.declared.candidates.candidate.Candidate.{Candidate}
use Rattle.npm_resolve.specs.declared.candidates.options.Omits.{Omits}
use Rattle.npm_resolve.specs.declared.candidates.options.Options.{Options}
use Rattle.npm_resolve.specs.declared.candidates.owner.Owner.TheVariants.{Version}
use Rattle.npm_resolve.specs.declared.candidates.owner.Reach.{Reach}
use Rattle.npm_pick_reports.specs.Loading.{Loads}
use Rattle.npm_pick_reports.specs.declared.load_error.LoadError.{LoadError}
use Rattle.npm_pick_reports.specs.declared.load_error.LoadError.TheVariants.{Memory}
use Rattle.npm_resolve.specs.Rules.{rules_of}
use Rattle.npm_resolve.specs.Wishes.{AreWishes}
use Rattle.npm_resolve.specs.declared.documents.Document.{Document}

-- ---- what is asked for

-- what a candidate asks for
abbrev pub IsPeer : Reach → RulesValue → Omits → Candidate → List AskValue → Type 0
IsPeer reach rules omits candidate asks = (left_out : List AskValue) × AreAsks (view candidate.manifest.now) (Version reach) rules omits asks left_out

-- what the candidates of a document ask for, one candidate after the other
pub record ArePeers (options : Options) (reach : Reach) (rules : RulesValue) (omits : Omits) (packument : Value) (peers : List AskValue) : Type 0 where
  pub candidates : List Candidate
  pub are : AreCandidates (view packument) options candidates
  pub each : List (List AskValue)
  pub of_each : AllZip (IsPeer reach rules omits) candidates each
  pub all : peers ≡ flat_map (λ (asks : List AskValue). asks) each

abbrev pub ArePeersOf : Options → Reach → RulesValue → Omits → Document → List AskValue → Type 0
ArePeersOf options reach rules omits document peers = ArePeers options reach rules omits document.packument peers

-- One of these asks is for this name, and asks for this package.
pub record IsAskedAs (asked : List AskValue) (name of_package : List ℕ) : Type 0 where
  pub ask : AskValue
  pub there : Contains asked ask
  pub of_name : ask.name ≡ name
  pub request : RegistrySpecValue
  pub is : registry_spec ask.name ask.spec ≡ Some request
  pub names : request.name ≡ of_package

-- ---- documents

-- a name has a document among these, or none was found for a package that it is asked for as
pub data IsRead (Gives : Loads) (asked : List AskValue) (documents : List Document) (name : List ℕ) : Type 0 where
  found : (document : Document) → Contains documents document → string_bytes document.name ≡ name
      → IsRead Gives asked documents name
  absent : (of_package : List ℕ) → IsAskedAs asked name of_package → Gives of_package (Ok None) → IsRead Gives asked documents name

-- the document was found for the package that its name is asked for as
pub record IsFound (Gives : Loads) (asked : List AskValue) (document : Document) : Type 0 where
  pub as_package : IsAskedAs asked (string_bytes document.name) (string_bytes document.package)
  pub loaded : Gives (string_bytes document.package) (Ok (Some document.packument))

-- what asks a registry is read
abbrev pub AreAllRead : Loads → (asked : List AskValue) → List Document → Type 0
AreAllRead Gives asked documents = All (λ (ask : AskValue). is_registered ask ≡ true → IsRead Gives asked documents ask.name) asked

-- what manifests ask for, and then what the candidates of each document ask for
abbrev pub all_asked : (wishes : List AskValue) → (peers : List (List AskValue)) → List AskValue
all_asked wishes peers = wishes ++ flat_map (λ (asks : List AskValue). asks) peers

-- Each name that the manifests or a candidate of one of the documents ask for is read, and only what is asked for.
pub record AreDocumentsFor (Gives : Loads) (manifests : List Value) (options : Options) (reach : Reach) (omits : Omits) (documents : List Document)
    : Type 0 where
  pub wishes : List AskValue
  pub left_out : List AskValue
  pub of_root : AreWishes (rules_of manifests) omits manifests wishes left_out
  pub peers : List (List AskValue)
  pub of_documents : AllZip (ArePeersOf options reach (rules_of manifests) omits) documents peers
  pub read : AreAllRead Gives (all_asked wishes peers) documents
  pub found : All (IsFound Gives (all_asked wishes peers)) documents

-- an allocation failed, or the document of a package was not read
abbrev pub IsUnread : Loads → LoadError → Type 0
IsUnread Gives error = (error ≡ Memory) ⊎ ((of_package : List ℕ) × Gives of_package (Err error))
