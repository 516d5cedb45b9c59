-- A candidate more, which is marked only if it is excluded.
use Rattle.std.proofs.Common.{◌≡◌, ◌∙◌, Bool, List, Some, ap, arith, false, get_or, length, subst, sym}
use Rattle.std.proofs.lemmas.List.{length-append}
use Rattle.version_solving.specs.Documents.{problem_of}
use Rattle.version_solving.specs.Private.Values.{name_of}
use Rattle.version_solving.proofs.Marks.{more_marks, not_marked, row_spares}
use Rattle.version_solving.proofs.ruled.Ruled.row_after.Goals as goal

pub loop-candidate-preserved : goal.loop-candidate-preserved
loop-candidate-preserved c =
    let marks = c.loop-candidate.candidates.items in
    record {
      count = omega (arith, ap length c.in_ok-push.ensures.items, length-append {A = Bool});
      excluded = λ s fits spares k is. subst (λ (bs : List Bool). get_or bs k false ≡ false) (sym c.in_ok-push.ensures.items)
          (more_marks marks c.is_out_after.result k (c.loop-candidate.invariant.excluded s fits spares k is)
          (λ same. not_marked (problem_of c.args.root.now c.args.documents.now) c.args.self.now.rows.items (name_of c.args.root.now c.args.step)
          (Some c.loop-candidate.candidate) c.is_out_after.result c.is_out_after.ensures s fits spares
          (is ∙ ap Some (same ∙ c.loop-candidate.invariant.count))));
    }

pub returns : goal.returns
returns c = row_spares (problem_of c.args.root.now c.args.documents.now) c.args.self.now.rows.items (name_of c.args.root.now c.args.step)
    (record { none = c.is_out_after-none.result; candidates = c.loop-candidate.candidates }) c.is_out_after-none.ensures
    c.loop-candidate.invariant.excluded
