-- What one manifest more asks for.
use Rattle.std.proofs.Common.{[], ap, map}
use Rattle.std.proofs.lemmas.List.{take_all}
use Rattle.npm_packages.specs.Rules.{rule_at}
use Rattle.npm_resolve.specs.Asks.{ask_value}
use Rattle.npm_resolve.proofs.Wishing.{wishes_more}
use Rattle.npm_resolve.proofs.wishes.wishes_of.Goals as goal

pub loop-manifest-init : goal.loop-manifest-init
loop-manifest-init c = record {
  each = [];
  are = tt;
  asked = ap (map ask_value) c.new.ensures.items;
  others = ap (map ask_value) c.new-2.ensures.items;
}

pub loop-manifest-preserved : goal.loop-manifest-preserved
loop-manifest-preserved c = wishes_more (rule_at c.args.rules.now) c.args.omits c.args.manifests.now c.loop-manifest.manifest-index c.manifest-item.result _ _
    c.loop-manifest-test.true c.manifest-item.is c.loop-manifest.invariant c.in_ok-add_wishes.ensures

pub returns : goal.returns
returns c = rw (take_all c.loop-manifest.manifest-index c.args.manifests.now c.loop-manifest-test.false) at c.loop-manifest.invariant
