-- The folders so far, and those that are left, are all folders.
use Rattle.std.proofs.Common.{◌≡◌, ◌++◌, map}
use Rattle.npm_packages.proofs.LinkedLists.{names_of}
use Rattle.npm_packages.proofs.linked.list_of.Given as goal

abbrev pub invariant-loop-folder : goal.invariant-loop-folder
invariant-loop-folder l =
    map (λ folder. folder.now) l.list.items ++ names_of l.folder-iterator ≡ names_of l.initial.folder-iterator
