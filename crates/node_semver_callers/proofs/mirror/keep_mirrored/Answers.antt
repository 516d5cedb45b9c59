use Rattle.std.proofs.Common.{rules}
use Rattle.node_semver_callers.proofs.MirroredTexts.{mirrored-filtered}
use Rattle.node_semver_callers.proofs.mirror.keep_mirrored.Goals as goal

pub returns : goal.returns
returns c = mirrored-filtered _ (λ t. t.now) c.args.range.now _ (λ x b g is. search rules) _ _ c.retain.ensures.filtered
