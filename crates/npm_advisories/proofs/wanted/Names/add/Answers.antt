-- One name more is in the map.
use Rattle.std.proofs.Common.{bytes_eq, nat_cmp}
use Rattle.std.proofs.lemmas.Map.Text.{btree_map_updates_str}
use Rattle.std.specs.BTreeMap.{get_by}
use Rattle.std.specs.Cmp.Lexicographic.{slice_cmp}
use Rattle.npm_advisories.specs.Lemmas.Adding.{name-more}
use Rattle.npm_advisories.proofs.wanted.Names.add.Goals as goal

pub returns : goal.returns
returns c = λ other.
    name-more (bytes_eq c.args.name.now other) _ (get_by (λ k. slice_cmp nat_cmp other k.now) c.args.self.now.set) _
    (btree_map_updates_str c.args.name.now c.args.self.now.set c.insert.new.self _ c.in_ok-insert.ensures.updates other)
