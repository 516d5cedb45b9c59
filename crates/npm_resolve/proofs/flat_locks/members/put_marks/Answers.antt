-- Each mark is put, or not.
use Rattle.std.proofs.Common.{◌∙◌, ap, codes}
use Rattle.std.proofs.lemmas.Result.{on_ok_weaker}
use Rattle.npm_resolve.specs.Members.{with_mark}
use Rattle.npm_resolve.proofs.flat_locks.members.put_marks.Goals as goal

pub returns : goal.returns
returns c = on_ok_weaker c.put_mark-4.result (λ is. is ∙ ap (with_mark (codes "peer") c.args.marks.peer) (c.in_ok-put_mark-3.ensures
    ∙ ap (with_mark (codes "devOptional") c.args.marks.dev_optional) (c.in_ok-put_mark-2.ensures
    ∙ ap (with_mark (codes "optional") c.args.marks.optional) c.in_ok-put_mark.ensures))) c.put_mark-4.ensures
