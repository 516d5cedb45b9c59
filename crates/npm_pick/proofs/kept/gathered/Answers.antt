use Rattle.std.proofs.Common.{map, string_bytes}
use Rattle.std.proofs.lemmas.Result.{IfOk-weaker}
use Rattle.serde_json.specs.View.{view}
use Rattle.npm_pick.specs.Private.Keeping.{key_value}
use Rattle.npm_pick.proofs.Gathered.{all_gathered}
use Rattle.npm_pick.proofs.kept.gathered.Goals as goal

pub returns : goal.returns
returns c = IfOk-weaker c.with_all.result _ _ (λ new added.
    all_gathered (view c.args.packument.now) c.args.options.now c.args.all (map string_bytes c.args.wanted.now)
    c.in_ok-ranges_of.field-0.items c.in_ok-ranges_of.ensures (map key_value c.in_ok-keys.keys.items)
    (map key_value new.items) c.if-not-all.false c.in_ok-keys.ensures.picked c.in_ok-keys.ensures.read added)
    c.with_all.ensures
