-- A member is a candidate, or is passed.
use Rattle.std.proofs.Common.{◌≡◌, ◌∷◌, [], append_assoc, append-nil}
use Rattle.serde_json.specs.View.{members_view, view}
use Rattle.npm_pick.specs.Packument.{releases_among}
use Rattle.npm_resolve.specs.Candidates.{listed, none, passed}
use Rattle.npm_resolve.proofs.candidates.listed.listed_among.Goals as goal

pub loop-key-preserved-in-Continue-branch-3 : goal.loop-key-preserved-in-Continue-branch-3
loop-key-preserved-in-Continue-branch-3 c = λ later are.
    let so = rw c.in-Some.ensures.steps at c.loop-key.invariant in
    let found = rw c.in-Some-2.is at c.in_ok-candidate.ensures.found in
    rw (c.in_ok-push.ensures.items, append_assoc) (so (c.in-Some-2.candidate ∷ later)
    (listed _ c.in-Some-2.candidate _ later (rw c.as_str.ensures.value at found) are))

pub loop-key-preserved : goal.loop-key-preserved
loop-key-preserved c = λ later are.
    let so = rw c.in-Some.ensures.steps at c.loop-key.invariant in
    let without = rw c.in_default.is at c.in_ok-candidate.ensures.none in
    so later (passed _ _ later (rw c.as_str.ensures.value at without) are)

pub returns : goal.returns
returns c =
    let same : c.into_iter-key-iterator.result ≡ c.args.versions.now.entries = cc in
    let all = c.loop-key.invariant [] (rw c.in-None.ensures.steps.0 none) in
    rw same at (rw append-nil at all)
