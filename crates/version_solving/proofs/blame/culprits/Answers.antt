use Rattle.std.proofs.Common.{subst, sym}
use Rattle.std.proofs.lemmas.Option.{IfSome_then}
use Rattle.std.proofs.lemmas.Result.{IfOk-weaker}
use Rattle.version_solving.specs.Private.Missed.{AreTooMany}
use Rattle.version_solving.specs.Documents.{problem_of}
use Rattle.version_solving.proofs.Missed.{culprits_of_fewer}
use Rattle.version_solving.proofs.blame.culprits.Goals as goal

pub returns : goal.returns
returns c =
    let p = problem_of c.args.root.now c.args.documents.now in
    let too : AreTooMany p c.deref.result.now = subst (AreTooMany p) (sym c.deref.ensures.value) c.in_ok-few.ensures in
    record {
      culprits = IfOk-weaker c.least_of.result _ _
          (λ found are. IfSome_then found are (λ demands they. culprits_of_fewer p c.deref.result.now demands.items too they)) c.least_of.ensures.culprits;
    }
