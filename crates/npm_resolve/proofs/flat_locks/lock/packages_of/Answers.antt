-- One package more.
use Rattle.std.proofs.Common.{◌≡◌, ◌∙◌, ◌∷◌, ◌+◌, ap, arith, drop, get_or, map, suc, sym}
use Rattle.std.proofs.Math.Seq.{drop-cons}
use Rattle.serde_json.specs.View.{members_view}
use Rattle.npm_resolve.specs.Installed.{installed_value}
use Rattle.npm_resolve.specs.Lock.{with_packages}
use Rattle.npm_resolve.specs.Private.Marking.{marks_in}
use Rattle.npm_resolve.proofs.flat_locks.lock.packages_of.Goals as goal

pub loop-one-preserved : goal.loop-one-preserved
loop-one-preserved c =
    let one = c.one-item.result in
    let rest = drop (c.loop-one.one-index + 1) c.args.installed.now in
    let next : suc c.loop-one.one-index ≡ c.loop-one.one-index + 1 = omega arith in
    let left : drop c.loop-one.one-index c.args.installed.now ≡ one ∷ rest =
    drop-cons c.args.installed.now c.loop-one.one-index one c.loop-one-test.true
    ∙ ap (λ n. get_or c.args.installed.now c.loop-one.one-index one ∷ drop n c.args.installed.now) next
    ∙ ap (λ o. o ∷ rest) (sym c.one-item.is) in
    let marks_of = marks_in c.args.reaches.now in
    ap (with_packages marks_of (map installed_value rest)) c.in_ok-add_package.ensures
    ∙ ap (λ some. with_packages marks_of (map installed_value some) (members_view c.loop-one.packages.entries)) (sym left)
    ∙ c.loop-one.invariant
