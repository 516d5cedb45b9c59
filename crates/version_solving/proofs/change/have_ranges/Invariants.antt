use Rattle.std.proofs.Common.{All, take}
use Rattle.version_solving.specs.declared.documents.Package.{Package}
use Rattle.version_solving.specs.Private.Changes.{AreAllBelow}
use Rattle.version_solving.proofs.change.have_ranges.Given as goal

abbrev pub invariant-loop-package : goal.invariant-loop-package
invariant-loop-package l = All (λ (one : Package). AreAllBelow l.number one.candidates.items) (take l.package-index l.documents.packages.items)
