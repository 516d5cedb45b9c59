-- Those so far say whether the candidates so far are allowed.
use Rattle.std.proofs.Common.{take}
use Rattle.npm_resolve.specs.Meanings.{MeaningValue, Means}
use Rattle.npm_resolve.specs.Instance.{AreAllowed}
use Rattle.npm_resolve.proofs.instance.allowed_by.Given as goal

abbrev pub invariant-loop-candidate : goal.invariant-loop-candidate
invariant-loop-candidate l = (value : MeaningValue) → Means l.meaning value
    → AreAllowed value (take l.candidate-index l.candidates) l.allowed.items
