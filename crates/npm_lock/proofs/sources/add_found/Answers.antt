-- One kind more.
use Rattle.std.proofs.Common.{map, string_bytes}
use Rattle.npm_lock.specs.Origins.{origin_value}
use Rattle.npm_lock.specs.Sources.{is_found, source_of, source_value}
use Rattle.npm_lock.proofs.MoreSources.{next_added}
use Rattle.npm_lock.proofs.sources.add_found.Goals as goal

pub loop-kind-preserved : goal.loop-kind-preserved
loop-kind-preserved c =
    next_added (source_of (origin_value c.args.origin)) (is_found (map string_bytes c.args.registries.now) (origin_value c.args.origin))
    c.args.kinds.now c.loop-kind.kind-index _ (map source_value c.loop-kind.found.items) _ _ c.loop-kind-test.true
    c.loop-kind.invariant c.in_ok-add_kind.ensures
