-- The best of the members so far was found, and of any releases before them.
use Rattle.std.proofs.Common.{◌++◌, List}
use Rattle.serde_json.specs.View.{members_view, view}
use Rattle.npm_pick.specs.Packument.{Release, releases_among}
use Rattle.npm_pick.specs.Private.Comparing.{IsBestSoFar}
use Rattle.npm_pick.specs.Ranking.{IsBestOrNone}
use Rattle.npm_pick.proofs.rank.best.best_among.Given as goal

abbrev pub invariant-loop-key : goal.invariant-loop-key
invariant-loop-key l = (before : List Release)
    → IsBestOrNone (view l.asked.packument.now) l.asked.options.now l.asked.range.now before l.initial.best
    → IsBestSoFar (view l.asked.packument.now) l.asked.options.now l.asked.range.now
    (before ++ releases_among (members_view l.initial.key-iterator)) (members_view l.key-iterator) l.best
