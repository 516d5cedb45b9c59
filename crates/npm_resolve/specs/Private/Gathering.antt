-- Names that are asked for: which of them were seen, and which of them wait to be read.
use Rattle.std.specs.Prelude.{◌≡◌, ◌⊎◌, ◌++◌, ℕ, Bool, List, [], ◌∷◌, None, Ok, Some, bytes_eq, false, if◌then◌else◌, string_bytes, true}
use Rattle.std.specs.BTreeSet.{contains_text}
use Rattle.std.specs.List.{All, AllZip, Contains}
use Rattle.npm_resolve.specs.Asks.{AskValue, RulesValue, is_registered}
use Rattle.npm_resolve.specs.declared.candidates.options.Omits.{Omits}
use Rattle.npm_resolve.specs.declared.candidates.options.Options.{Options}
use Rattle.npm_resolve.specs.declared.candidates.owner.Reach.{Reach}
use Rattle.npm_pick_reports.specs.Loading.{Loads}
use Rattle.serde_json.specs.declared.value.Value.{Value}
use Rattle.npm_resolve.specs.Documents.{ArePeers, ArePeersOf, IsAskedAs, IsFound, IsRead, all_asked}
use Rattle.npm_resolve.specs.Wishes.{AreWishes}
use Rattle.npm_resolve.specs.declared.documents.Document.{Document}
use Rattle.npm_resolve.specs.declared.requests.Request.{Request}
use Rattle.npm_resolve.specs.declared.requests.Requests.{Requests}

abbrev pub is_seen : Requests → (name : List ℕ) → Bool
is_seen requests name = contains_text requests.seen name

-- a request that waits is for the name
abbrev pub IsWaiting : List Request → (name : List ℕ) → Type 0
IsWaiting waiting name = (request : Request) × Contains waiting request × (string_bytes request.name ≡ name)

-- the request is for the package that its name is asked for as
abbrev pub IsRequested : List AskValue → Request → Type 0
IsRequested asked request = IsAskedAs asked (string_bytes request.name) (string_bytes request.package)

-- What is asked for was seen. The requests that are added are for what is asked, and for each name that was not seen before.
pub record AreAdded (asked : List AskValue) (old new : Requests) : Type 0 where
  pub added : List Request
  pub queued : new.queue.items ≡ old.queue.items ++ added
  pub requested : All (IsRequested asked) added
  pub kept : (name : List ℕ) → is_seen old name ≡ true → is_seen new name ≡ true
  pub seen : All (λ (ask : AskValue). is_registered ask ≡ true → is_seen new ask.name ≡ true) asked
  pub either : (name : List ℕ) → is_seen new name ≡ true → (is_seen old name ≡ true) ⊎ IsWaiting added name

-- The name was seen before, or its request waits last.
pub data IsNoted (name of_package : List ℕ) (old new : Requests) : Type 0 where
  known : is_seen old name ≡ true → new ≡ old → IsNoted name of_package old new
  fresh : (request : Request) → string_bytes request.name ≡ name → string_bytes request.package ≡ of_package
      → new.queue.items ≡ old.queue.items ++ (request ∷ [])
      → ((other : List ℕ) → is_seen new other ≡ (if bytes_eq name other then true else is_seen old other))
      → IsNoted name of_package old new

-- What the manifests ask for waits to be read.
pub record AreBegun (rules : RulesValue) (omits : Omits) (manifests : List Value) (requests : Requests) : Type 0 where
  pub wishes : List AskValue
  pub left_out : List AskValue
  pub of_root : AreWishes rules omits manifests wishes left_out
  pub start : Requests
  pub empty : start.queue.items ≡ []
  pub unseen : (name : List ℕ) → is_seen start name ≡ false
  pub added : AreAdded wishes start requests

-- The package of a request has no document, or one, whose candidates ask for more.
pub data IsAnswered (Gives : Loads) (options : Options) (reach : Reach) (rules : RulesValue) (omits : Omits) (name of_package : List ℕ) (documents new_documents : List Document)
    (old new : Requests)
    : Type 0 where
  absent : Gives of_package (Ok None) → new_documents ≡ documents → new ≡ old
      → IsAnswered Gives options reach rules omits name of_package documents new_documents old new
  found : (document : Document) (peers : List AskValue) → string_bytes document.name ≡ name
      → string_bytes document.package ≡ of_package → Gives of_package (Ok (Some document.packument))
      → new_documents ≡ documents ++ (document ∷ []) → ArePeers options reach rules omits document.packument peers → AreAdded peers old new
      → IsAnswered Gives options reach rules omits name of_package documents new_documents old new

-- What is asked for was seen. What waits was asked for, and so was each document; and a name that was seen waits, or is read.
pub record AreHeld (Gives : Loads) (asked : List AskValue) (documents : List Document) (requests : Requests) : Type 0 where
  pub seen : All (λ (ask : AskValue). is_registered ask ≡ true → is_seen requests ask.name ≡ true) asked
  pub requested : All (IsRequested asked) requests.queue.items
  pub found : All (IsFound Gives asked) documents
  pub read : (name : List ℕ) → is_seen requests name ≡ true
      → IsWaiting requests.queue.items name ⊎ IsRead Gives asked documents name

-- The same of what the manifests and the candidates of the documents so far ask for.
pub record AreGathered (Gives : Loads) (options : Options) (reach : Reach) (rules : RulesValue) (omits : Omits) (wishes : List AskValue) (documents : List Document)
    (requests : Requests)
    : Type 0 where
  pub peers : List (List AskValue)
  pub of_documents : AllZip (ArePeersOf options reach rules omits) documents peers
  pub held : AreHeld Gives (all_asked wishes peers) documents requests
