-- The versions so far are those that the texts so far write.
use Rattle.std.proofs.Common.{map, take}
use Rattle.node_semver_callers.specs.Newest.{AreVersionsOf}
use Rattle.node_semver_callers.proofs.newest.versions_of.Given as goal

abbrev pub invariant-loop-text : goal.invariant-loop-text
invariant-loop-text l = AreVersionsOf (map (λ t. t.now) (take l.text-index l.texts)) l.versions.items
