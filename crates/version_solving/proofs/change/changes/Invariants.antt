use Rattle.std.proofs.Common.{◌≡◌, take}
use Rattle.std.specs.List.{AllZip}
use Rattle.version_solving.specs.Documents.{problem_of}
use Rattle.version_solving.specs.Fitting.{IsChange}
use Rattle.version_solving.proofs.change.changes.Given as goal

abbrev pub invariant-loop-demand : goal.invariant-loop-demand
invariant-loop-demand l = record {
  found : AllZip (IsChange (problem_of l.root l.initial.documents)) (take l.demand-index l.demands) l.found.items;
  ranges : l.documents.ranges.items ≡ l.initial.documents.ranges.items;
  packages : l.documents.packages ≡ l.initial.documents.packages;
}
