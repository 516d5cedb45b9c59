-- One registry more, or the one that is found.
use Rattle.std.proofs.Common.{◌∙◌, ap, string_bytes, sym}
use Rattle.npm_lock.specs.Addresses.{is_below}
use Rattle.npm_lock.proofs.MoreSources.{found_here, passed_by}
use Rattle.npm_lock.proofs.sources.is_below_any.Goals as goal

pub loop-registry-preserved : goal.loop-registry-preserved
loop-registry-preserved c = passed_by string_bytes (is_below c.args.address.now) c.args.registries.now
    c.loop-registry.registry-index c.registry-item.result c.loop-registry-test.true c.registry-item.is _
    c.loop-registry.invariant
    (ap (is_below c.args.address.now) (sym c.as_str.ensures.value) ∙ sym c.is_below.ensures ∙ c.if-is_below.false)

pub returns-then-is_below : goal.returns-then-is_below
returns-then-is_below c = found_here string_bytes (is_below c.args.address.now) c.args.registries.now
    c.loop-registry.registry-index c.registry-item.result c.loop-registry-test.true c.registry-item.is _
    c.loop-registry.invariant
    (ap (is_below c.args.address.now) (sym c.as_str.ensures.value) ∙ sym c.is_below.ensures ∙ c.if-is_below.true)
