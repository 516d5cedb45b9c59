-- All folders are in the list.
use Rattle.std.proofs.Common.{◌≡◌, ◌∙◌, append-nil, map, sym}
use Rattle.npm_packages.proofs.LinkedLists.{are_keys, names_of}
use Rattle.npm_packages.proofs.linked.list_of.Goals as goal

pub returns : goal.returns
returns c =
    let entries : c.into_iter-folder-iterator.result ≡ c.args.folders.now.entries = cc in
    let whole : map (λ folder. folder.now) c.loop-folder.list.items ≡ names_of c.args.folders.now.entries =
    sym (append-nil (map (λ folder. folder.now) c.loop-folder.list.items))
    ∙ (rw (c.in-None.ensures.steps.0, entries) at c.loop-folder.invariant) in
    rw whole (are_keys c.args.folders.now c.iter-folder-items.ensures.ordered)
