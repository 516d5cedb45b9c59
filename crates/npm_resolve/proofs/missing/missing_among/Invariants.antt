-- Those so far, and then those that are left, are all that are needed.
use Rattle.std.proofs.Common.{◌≡◌, ◌++◌, drop, map}
use Rattle.version_solving.specs.declared.ask.Listed.{Listed}
use Rattle.npm_resolve.specs.Missing.{missing_among}
use Rattle.npm_resolve.specs.Texts.{text}
use Rattle.npm_resolve.proofs.missing.missing_among.Given as goal

abbrev pub invariant-loop-one : goal.invariant-loop-one
invariant-loop-one l = map text l.missing.items
    ++ missing_among l.listed (map (λ (one : Listed). one.name.now) (drop l.one-index l.absent))
    ≡ missing_among l.listed (map (λ (one : Listed). one.name.now) l.absent)
