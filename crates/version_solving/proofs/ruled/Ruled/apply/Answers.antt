-- What is selected of the name cannot be ruled out.
use Rattle.std.proofs.Common.{◌≡◌, ◌∙◌, ap, false, sym, true}
use Rattle.version_solving.specs.Private.Values.{has, name_of}
use Rattle.version_solving.proofs.Ruling.{fits_any}
use Rattle.version_solving.proofs.ruled.Ruled.apply.Goals as goal

pub returns-clause-over : goal.returns-clause-over
returns-clause-over c = λ is s fits spares.
    let row = c.in_ok-row.row in
    let full : has row (s c.name_of-name.result) ≡ true =
    c.is_full-is_over.ensures is s (fits_any c.args.root.now c.args.documents.now s fits) in
    let kept : has row (s (name_of c.args.root.now c.args.step)) ≡ false = c.in_ok-row.ensures s fits spares in
    let no : true ≡ false = sym full ∙ (ap (λ n. has row (s n)) c.name_of-name.ensures ∙ kept) in cc
