-- The marks are those of the names that are reached.
use Rattle.std.proofs.Common.{◌∙◌, ap, map}
use Rattle.std.proofs.lemmas.Result.{IfOk-weaker}
use Rattle.serde_json.specs.View.{view}
use Rattle.npm_resolve.specs.Installed.{installed_value}
use Rattle.npm_resolve.specs.Lock.{file_of}
use Rattle.npm_resolve.specs.Private.Marking.{marks_in}
use Rattle.npm_resolve.proofs.Marking.{marked}
use Rattle.npm_resolve.proofs.flat_locks.lock.lock_of.Goals as goal

pub returns : goal.returns
returns c = IfOk-weaker c.file_of.result _ _ (λ lock is. record {
  marks_of = marks_in c.in_ok-reaches.reaches;
  marked = marked (view c.args.root.now) (map installed_value c.args.installed.now) c.in_ok-reaches.reaches c.in_ok-reaches.ensures;
  whole = is ∙ ap (file_of (view c.args.root.now)) c.in_ok-packages.ensures;
}) c.file_of.ensures
