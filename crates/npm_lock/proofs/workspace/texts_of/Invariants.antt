-- The texts so far, and those of the patterns that are left, are all texts.
use Rattle.std.proofs.Common.{◌≡◌, ◌++◌, drop, map}
use Rattle.serde_json.specs.View.{items_view}
use Rattle.npm_lock.specs.Workspaces as Workspaces
use Rattle.npm_lock.proofs.workspace.texts_of.Given as goal

abbrev pub invariant-loop-pattern : goal.invariant-loop-pattern
invariant-loop-pattern l = map (λ text. text.now) l.list.items ++ Workspaces.texts_of (items_view (drop l.pattern-index l.patterns))
    ≡ Workspaces.texts_of (items_view l.patterns)
