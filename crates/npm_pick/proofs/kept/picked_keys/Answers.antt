-- One text more.
use Rattle.std.proofs.Common.{map, string_bytes}
use Rattle.serde_json.specs.View.{view}
use Rattle.npm_pick.specs.Private.Keeping.{IsPickAdded, key_value}
use Rattle.npm_pick.proofs.Picks.{picked_all, picked_more, read_more}
use Rattle.npm_pick.proofs.kept.picked_keys.Goals as goal

pub loop-text-preserved : goal.loop-text-preserved
loop-text-preserved c =
    let added : IsPickAdded (view c.args.packument.now) c.args.options.now (string_bytes c.text-item.result)
    (map key_value c.loop-text.keys.items) (map key_value c.push_picked.new.keys.items) =
    rw c.as_str.ensures.value at c.in_ok-push_picked.ensures in
    record {
      picked = picked_more (view c.args.packument.now) c.args.options.now string_bytes c.args.wanted.now
          c.loop-text.text-index c.text-item.result (map key_value c.loop-text.keys.items)
          (map key_value c.push_picked.new.keys.items) c.loop-text-test.true c.text-item.is added
          c.loop-text.invariant.picked;
      read = read_more (view c.args.packument.now) c.args.options.now (string_bytes c.text-item.result)
          (map key_value c.loop-text.keys.items) (map key_value c.push_picked.new.keys.items) added
          c.loop-text.invariant.read;
    }

pub returns-clause-picked : goal.returns-clause-picked
returns-clause-picked c = picked_all (view c.args.packument.now) c.args.options.now string_bytes c.args.wanted.now
    c.loop-text.text-index (map key_value c.loop-text.keys.items) c.loop-text-test.false c.loop-text.invariant.picked
