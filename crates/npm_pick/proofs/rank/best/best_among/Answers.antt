-- A member has a rank, or is passed.
use Rattle.std.proofs.Common.{◌≡◌, ◌++◌, arith, rules}
use Rattle.std.proofs.lemmas.Grind.{common_steps}
use Rattle.serde_json.specs.View.{members_view, view}
use Rattle.npm_pick.specs.Packument.{releases_among}
use Rattle.npm_pick.proofs.Ranked.{walked_all, walked_found, walked_past}
use Rattle.npm_pick.proofs.rank.best.best_among.Goals as goal

pub loop-key-preserved-in-Some-2 : goal.loop-key-preserved-in-Some-2
loop-key-preserved-in-Some-2 c = λ before held.
    let so = rw c.in-Some.ensures.steps at (c.loop-key.invariant before held) in
    let ranked = rw c.in-Some-2.is at c.in_ok-rank.ensures.found in
    walked_found (view c.args.asked.now.packument.now) c.args.asked.now.options.now c.args.asked.now.range.now
    (before ++ releases_among (members_view c.into_iter-key-iterator.result)) (members_view c.next.new.self)
    c.loop-key.best (record { key = c.as_str-key.result; manifest = c.in-Some.manifest; rank = c.in-Some-2.rank })
    c.better.result (rw c.as_str-key.ensures.value so) ranked c.better.ensures

pub loop-key-preserved : goal.loop-key-preserved
loop-key-preserved c = λ before held.
    let so = rw c.in-Some.ensures.steps at (c.loop-key.invariant before held) in
    let past = rw c.in_default.is at c.in_ok-rank.ensures.none in
    walked_past (view c.args.asked.now.packument.now) c.args.asked.now.options.now c.args.asked.now.range.now
    (before ++ releases_among (members_view c.into_iter-key-iterator.result)) (members_view c.next.new.self)
    c.loop-key.best (record { key = c.as_str-key.result.now; manifest = view c.in-Some.manifest.now })
    (rw c.as_str-key.ensures.value so) past

pub returns : goal.returns
returns c = λ before held.
    let same : c.into_iter-key-iterator.result ≡ c.args.versions.now.entries =
    first_of (cc, search rules, grind (arith, common_steps)) in
    let so = rw c.in-None.ensures.steps.0 at (c.loop-key.invariant before held) in
    let all = walked_all (view c.args.asked.now.packument.now) c.args.asked.now.options.now c.args.asked.now.range.now
    (before ++ releases_among (members_view c.into_iter-key-iterator.result)) c.loop-key.best so in
    rw same at all
