use Rattle.std.proofs.lemmas.Result.{on_err_weaker, on_ok_weaker}
use Rattle.semver_keys.proofs.Growing.{at_err, grown_added, grown_after, grown_twice}
use Rattle.semver_keys.proofs.VersionSteps.{parts-added}
use Rattle.semver_keys.proofs.version.add_parts.Goals as goal

pub returns-in_err-add_number-2-clause-grown : goal.returns-in_err-add_number-2-clause-grown
returns-in_err-add_number-2-clause-grown g c =
    at_err _ (grown_after _ _ _ _ c.in_ok-add_number.ensures.added c.in_err-add_number-2.ensures.grown)

pub returns-in_err-add_number-3-clause-grown : goal.returns-in_err-add_number-3-clause-grown
returns-in_err-add_number-3-clause-grown g c = at_err _ (grown_twice _ _ _
    (grown_added _ _ _ c.in_ok-add_number.ensures.added)
    (grown_after _ _ _ _ c.in_ok-add_number-2.ensures.added c.in_err-add_number-3.ensures.grown))

pub returns-clause-added : goal.returns-clause-added
returns-clause-added g c = on_ok_weaker c.add_prerelease_key.result
    (parts-added (g.V.AsVersion.seen c.args.version.now) c.triple-triple.result
    c.args.key.now.items c.add_number.new.key.items c.add_number-2.new.key.items c.add_number-3.new.key.items
    c.add_prerelease_key.new.key.items c.triple-triple.ensures
    c.in_ok-add_number.ensures.added c.in_ok-add_number-2.ensures.added c.in_ok-add_number-3.ensures.added)
    c.add_prerelease_key.ensures.added

pub returns-clause-grown : goal.returns-clause-grown
returns-clause-grown g c = on_err_weaker c.add_prerelease_key.result (λ grown. grown_twice _ _ _
    (grown_added _ _ _ c.in_ok-add_number.ensures.added)
    (grown_twice _ _ _ (grown_added _ _ _ c.in_ok-add_number-2.ensures.added)
    (grown_after _ _ _ _ c.in_ok-add_number-3.ensures.added grown))) c.add_prerelease_key.ensures.grown
