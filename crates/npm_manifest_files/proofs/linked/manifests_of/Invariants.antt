-- The manifests so far, and then those in the folders that are left, are those of all folders.
use Rattle.std.proofs.Common.{drop, map}
use Rattle.std.specs.Fn.{FnReturnsAt}
use Rattle.npm_manifest_files.specs.Linked.{AreRead, AreReadAfter, LoadedValue, loaded_value}
use Rattle.npm_manifest_files.proofs.linked.manifests_of.Given as goal

abbrev pub invariant-loop-folder : goal.invariant-loop-folder
invariant-loop-folder g l = (after : LoadedValue)
    → AreReadAfter (FnReturnsAt g.F.Fn l.read) (loaded_value l.made)
    (map (λ folder. folder.now) (drop l.folder-index l.folder-items)) after
    → AreRead (FnReturnsAt g.F.Fn l.read) (map (λ folder. folder.now) l.folder-items) after
