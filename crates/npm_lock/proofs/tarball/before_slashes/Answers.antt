-- The slash that is gone does not count, and at last there is none.
use Rattle.std.proofs.Common.{◌≡◌, ◌∙◌, None, Some, ap, codes, option_map, rules, sym}
use Rattle.npm_lock.specs.Tarballs.{front_of}
use Rattle.npm_lock.proofs.Slashes.{last_gone, none_last}
use Rattle.npm_lock.proofs.tarball.before_slashes.Goals as goal

pub loop-front-preserved : goal.loop-front-preserved
loop-front-preserved c =
    let found : front_of (codes "/") c.loop-front.left.now ≡ Some c.in-Some.front.now =
    sym c.front_of.ensures ∙ ap (option_map (λ front. front.now)) c.in-Some.is in
    record { text = search rules; same = last_gone c.loop-front.left.now c.in-Some.front.now found ∙ c.loop-front.invariant.same }

pub returns : goal.returns
returns c =
    let none : front_of (codes "/") c.loop-front.left.now ≡ None =
    sym c.front_of.ensures ∙ ap (option_map (λ front. front.now)) c.in_default.is in
    sym (none_last c.loop-front.left.now none) ∙ c.loop-front.invariant.same
