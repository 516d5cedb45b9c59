use Rattle.std.proofs.Common.{map, string_bytes}
use Rattle.serde_json.specs.View.{view}
use Rattle.npm_pick.specs.Private.Keeping.{key_value}
use Rattle.npm_pick.proofs.Gathered.{all_kept}
use Rattle.npm_pick.proofs.kept.keep.Goals as goal

pub returns : goal.returns
returns c = all_kept (view c.args.packument.now) c.args.options.now c.args.all (map string_bytes c.args.wanted.now)
    c.in_order.result (λ keys. map (λ key. key.now) keys.items) (map key_value c.in_ok-keys.keys.items)
    c.in_ok-keys.ensures c.in_order.ensures.ordered c.in_order.ensures.exact
