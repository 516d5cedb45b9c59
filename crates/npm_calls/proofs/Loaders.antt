-- The documents that a call reads are those of any relation that has what the call returns.
use Rattle.std.proofs.Common.{◌≡◌, ℕ, List, None, Ok, Option, Result, Some, string_bytes, true}
use Rattle.std.proofs.lemmas.List.Elements.{All-weaker}
use Rattle.serde_json.specs.declared.value.Value.{Value}
use Rattle.npm_resolve.specs.Asks.{AskValue, is_registered}
use Rattle.npm_resolve.specs.declared.candidates.options.Omits.{Omits}
use Rattle.npm_resolve.specs.declared.candidates.options.Options.{Options}
use Rattle.npm_resolve.specs.declared.candidates.owner.Reach.{Reach}
use Rattle.npm_pick_reports.specs.Loading.{Loads}
use Rattle.npm_pick_reports.specs.declared.load_error.LoadError.{LoadError}
use Rattle.npm_resolve.specs.Documents.{AreDocumentsFor, IsFound, IsRead, all_asked}
use Rattle.npm_resolve.specs.Documents as Reading
use Rattle.npm_resolve.specs.declared.documents.Document.{Document}

module _ (One Other : Loads)
    (kept : (name : List ℕ) (loaded : Result (Option Value) LoadError) → One name loaded → Other name loaded) where
  read_kept : (asked : List AskValue) (documents : List Document) (name : List ℕ) → IsRead One asked documents name
      → IsRead Other asked documents name
  read_kept asked documents name (Reading.found document there same) = Reading.found document there same
  read_kept asked documents name (Reading.absent of_package asks none) =
      Reading.absent of_package asks (kept of_package (Ok None) none)

  found_kept : (asked : List AskValue) (document : Document) → IsFound One asked document → IsFound Other asked document
  found_kept asked document found = record {
    as_package = found.as_package;
    loaded = kept (string_bytes document.package) (Ok (Some document.packument)) found.loaded;
  }

pub documents_kept : {One : Loads} (Other : Loads) {manifests : List Value} {options : Options} {reach : Reach} {omits : Omits}
    {documents : List Document} → AreDocumentsFor One manifests options reach omits documents
    → ((name : List ℕ) (loaded : Result (Option Value) LoadError) → One name loaded → Other name loaded)
    → AreDocumentsFor Other manifests options reach omits documents
documents_kept {One} Other {manifests} {options} {reach} {omits} {documents} are kept =
    let asked : List AskValue = all_asked are.wishes are.peers in record {
      wishes = are.wishes;
      left_out = are.left_out;
      of_root = are.of_root;
      peers = are.peers;
      of_documents = are.of_documents;
      read = All-weaker (λ (ask : AskValue). is_registered ask ≡ true → IsRead One asked documents ask.name)
          (λ (ask : AskValue). is_registered ask ≡ true → IsRead Other asked documents ask.name)
          (λ ask read registered. read_kept One Other kept asked documents ask.name (read registered)) asked are.read;
      found = All-weaker (IsFound One asked) (IsFound Other asked) (found_kept One Other kept asked) documents are.found;
    }
