-- By the version that the text is read as, if there is one.
use Rattle.std.proofs.Common.{◌↔◌, IsTrue, ap, option_map, rules}
use Rattle.node_semver.specs.Ranges.{RangeAdmits}
use Rattle.npm_trees.proofs.Meeting.{nothing_admitted, read_admits, unread}
use Rattle.npm_trees.proofs.met.is_inside.Goals as goal

pub returns-in_default : goal.returns-in_default
returns-in_default c = λ text means. (
  (λ never. cc never),
  (λ is. absurd (nothing_admitted text _ (ap (option_map (λ t. t.now)) c.in_default.is) is)),
)

pub returns-in-Some-installed_version : goal.returns-in-Some-installed_version
returns-in-Some-installed_version c = λ text means.
    let told : IsTrue c.satisfies.result ↔ RangeAdmits c.args.range.now c.in-Some-installed_version.version = search rules in
    let admits = means c.in-Some-installed_version.version in
    let both = read_admits text _ c.in-Some.text.now (ap (option_map (λ t. t.now)) c.in-Some.is) c.in-Some-installed_version.version
    (rw c.in-Some-installed_version.is at c.installed_version.ensures.found) in
    ((λ is. both.0 (admits.0 (told.0 is))), (λ is. told.1 (admits.1 (both.1 is))))

pub returns-in-None : goal.returns-in-None
returns-in-None c = λ text means. (
  (λ never. cc never),
  (λ is. absurd (unread text _ c.in-Some.text.now (ap (option_map (λ t. t.now)) c.in-Some.is)
      (rw c.in-None.is at c.installed_version.ensures.none) is)),
)
