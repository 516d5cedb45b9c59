-- The candidates so far, and then those of the members that are left, are all candidates.
use Rattle.std.proofs.Common.{◌++◌, List}
use Rattle.serde_json.specs.View.{members_view, view}
use Rattle.npm_pick.specs.Packument.{releases_among}
use Rattle.npm_resolve.specs.Candidates.{AreListed}
use Rattle.npm_resolve.specs.declared.candidates.candidate.Candidate.{Candidate}
use Rattle.npm_resolve.proofs.candidates.listed.listed_among.Given as goal

abbrev pub invariant-loop-key : goal.invariant-loop-key
invariant-loop-key l = (later : List Candidate)
    → AreListed (view l.packument) l.options (releases_among (members_view l.key-iterator)) later
    → AreListed (view l.packument) l.options (releases_among (members_view l.initial.key-iterator)) (l.listed.items ++ later)
