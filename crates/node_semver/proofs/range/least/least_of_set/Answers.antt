use Rattle.std.proofs.Common.{[], ◌≡◌, ◌+◌, ◌∙◌, ap, sym, subst}
use Rattle.semver_texts.specs.EndViews.{build_seen}
use Rattle.semver_texts.specs.Identifier.{values_of}
use Rattle.semver_texts.specs.Version.{VersionValue}
use Rattle.semver_texts.specs.declared.triple.Triple.{Triple}
use Rattle.node_semver.proofs.Least.LeastLemmas.{before-least, candidate-least, patch-candidate, start-candidate}
use Rattle.node_semver.proofs.Least.LeastLemmas.{zero-candidate}
use Rattle.node_semver.specs.Private.LeastViews.{IsInsideOrNone, IsLeastInSet, IsLeastOfTriple}
use Rattle.node_semver.proofs.range.least.least_of_set.Goals as goal

pub returns-in-Start : goal.returns-in-Start
returns-in-Start c =
    let included = c.args.included in
    let set = c.args.set.now in
    candidate-least included set c.least_of_triple.result c.if_inside.result
    (start-candidate included set c.least_of_triple.result (sym c.lower.ensures ∙ c.in-Start.is)
    (subst (λ u. IsLeastOfTriple included u 0 0 0 [] c.least_of_triple.result) c.upper-upper.ensures
    (subst (λ (t : Triple). IsLeastOfTriple included c.upper-upper.result.now t.major t.minor t.patch []
    c.least_of_triple.result)
    c.new.ensures c.least_of_triple.ensures)))
    (subst (λ u. IsInsideOrNone u c.least_of_triple.result c.if_inside.result)
    c.upper-upper.ensures c.if_inside.ensures)

pub returns-in-Before : goal.returns-in-Before
returns-in-Before c =
    let included = c.args.included in
    let set = c.args.set.now in
    subst (IsLeastInSet included set) (sym c.at_end.ensures)
    (before-least included set c.in-Before.end c.requires.holds (sym c.lower.ensures ∙ c.in-Before.is))

pub returns-in-After : goal.returns-in-After
returns-in-After c =
    let included = c.args.included in
    let set = c.args.set.now in
    candidate-least included set c.after_end.result c.if_inside-in-After.result
    (zero-candidate included set c.in-After.end c.after_end.result (sym c.lower.ensures ∙ c.in-After.is)
    (c.is_prerelease.ensures.0 c.if-is_prerelease.true) c.after_end.ensures)
    (subst (λ u. IsInsideOrNone u c.after_end.result c.if_inside-in-After.result)
    c.upper-upper.ensures c.if_inside-in-After.ensures)

pub returns-in-After-2 : goal.returns-in-After-2
returns-in-After-2 c =
    let included = c.args.included in
    let set = c.args.set.now in
    let found = c.least_of_triple-in-After-2.result in
    let e = c.end.inside in
    let same : c.in-After-2.end ≡ c.in-After.end = cc (c.in-After.is, c.in-After-2.is) in
    let seen = c.build.ensures ∙ sym (ap (λ (v : VersionValue). v.build) c.end.view_is) in
    let built : IsLeastOfTriple included set.upper e.major e.minor (e.patch + 1) (build_seen e.extras) found =
    subst (λ u. IsLeastOfTriple included u e.major e.minor (e.patch + 1) (build_seen e.extras) found)
    c.upper-upper.ensures
    (subst (λ l. IsLeastOfTriple included c.upper-upper.result.now e.major e.minor (e.patch + 1) l found) seen
    (subst (λ (t : Triple). IsLeastOfTriple included c.upper-upper.result.now t.major t.minor t.patch
    (values_of c.build.result.now) found) c.new-next.ensures c.least_of_triple-in-After-2.ensures)) in
    candidate-least included set found c.if_inside-in-After-2.result
    (patch-candidate included set c.in-After-2.end found (sym c.lower.ensures ∙ c.in-After-2.is)
    (λ pre. cc (
      c.is_prerelease.ensures.1 (λ final. pre (ap (λ (v : VersionValue). v.pre_release) same ∙ final)),
      c.if-is_prerelease.false,
    ))
    (subst (λ (v : VersionValue). IsLeastOfTriple included set.upper v.major v.minor
    (v.patch + 1) v.build found) c.end.view_is built))
    (subst (λ u. IsInsideOrNone u found c.if_inside-in-After-2.result) c.upper-upper.ensures
    c.if_inside-in-After-2.ensures)
