use Rattle.std.proofs.Common.{◌≡◌, ◌++◌, ◌∷◌, [], None, Some, subst, sym}
use Rattle.std.proofs.lemmas.List.{append-nil}
use Rattle.std.proofs.lemmas.Result.{on_ok_weaker}
use Rattle.semver_sets.specs.Private.RangeViews.{IsOneMore, IsSetOfAlternative}
use Rattle.semver_sets.proofs.read.add_alternative.Goals as goal

pub returns-in-Ok-Some : goal.returns-in-Ok-Some
returns-in-Ok-Some c =
    let set = subst (IsSetOfAlternative c.args.text.now) c.in-Ok-Some.field-0-is c.in-Ok-Some.ensures in
    let more : c.add.new.self ≡ c.args.sets.now ++ c.in-Ok-Some.set ∷ []
    → IsOneMore c.args.text.now c.args.sets.now c.add.new.self =
    λ added. (Some c.in-Ok-Some.set, set, added) in
    on_ok_weaker c.add.result more c.add.ensures

pub returns-in-Ok-None : goal.returns-in-Ok-None
returns-in-Ok-None c =
    let set = subst (IsSetOfAlternative c.args.text.now) c.in-Ok-None.field-0-is c.in-Ok-None.ensures in
    (None, set, sym (append-nil c.args.sets.now))
