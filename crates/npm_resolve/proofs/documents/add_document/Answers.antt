-- The package has a document, or none.
use Rattle.std.proofs.Common.{◌∙◌, None, Ok, Some, ap, inr, refl, string_bytes}
use Rattle.std.proofs.lemmas.Fn.{says_at}
use Rattle.std.specs.Fn.{FnReturnsAt}
use Rattle.npm_resolve.specs.Private.Gathering.{absent, found}
use Rattle.npm_resolve.specs.declared.documents.Document.{Document}
use Rattle.npm_resolve.proofs.documents.add_document.Goals as goal

pub returns-in-Ok-clause-added : goal.returns-in-Ok-clause-added
returns-in-Ok-clause-added g c =
    let gives : FnReturnsAt g.F.Fn c.args.load.now (string_bytes c.args.request.package) (Ok (Some c.in-Ok-Some.packument)) =
    rw c.as_str.ensures.value at (says_at g.F.Fn c.load.ensures (c.in-Ok-Some.is ∙ ap Ok c.in-Ok-Some.field-0-is)) in
    let document : Document = record {
      name = c.args.request.name;
      «package» = c.args.request.package;
      packument = c.in-Ok-Some.packument;
    } in
    let added = c.in-Ok.ensures in
    found document added.0 refl refl gives added.3 added.1 added.2

pub returns-in-Ok-None-clause-added : goal.returns-in-Ok-None-clause-added
returns-in-Ok-None-clause-added g c =
    let gives : FnReturnsAt g.F.Fn c.args.load.now (string_bytes c.args.request.package) (Ok None) =
    rw c.as_str.ensures.value at (says_at g.F.Fn c.load.ensures (c.in-Ok-None.is ∙ ap Ok c.in-Ok-None.field-0-is)) in
    absent gives refl refl

pub returns-in-Err-clause-failed : goal.returns-in-Err-clause-failed
returns-in-Err-clause-failed g c = inr (
  string_bytes c.args.request.package,
  rw c.as_str.ensures.value at (says_at g.F.Fn c.load.ensures c.in-Err.is),
)
