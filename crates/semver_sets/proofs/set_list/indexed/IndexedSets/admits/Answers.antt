use Rattle.std.proofs.Common.{rules, ◌<◌, ◌≡◌, ◌↔◌, ◌∙◌, IsTrue, List, ap, arith, filter, length, map, subst, sym}
use Rattle.std.specs.List.{AllByRecursion}
use Rattle.semver_cuts.specs.declared.cut.Cut.TheVariants.{Before}
use Rattle.semver_cuts.specs.SpanLists.{IsInSome}
use Rattle.semver_cuts.specs.Ends.{Ends}
use Rattle.semver_cuts.specs.Places.{span_at}
use Rattle.semver_cuts.specs.Starts.{count_of_starts}
use Rattle.semver_texts.specs.Comparison.{version_cmp}
use Rattle.semver_sets.specs.Meaning.{AnyByRecursion, IsInside}
use Rattle.semver_sets.specs.Searching.{HasDigits}
use Rattle.semver_texts.specs.Version.{IsPrerelease, VersionValue}
use Rattle.semver_sets.specs.Private.SearchViews.{is_opening_of, places_opening}
use Rattle.semver_sets.specs.declared.set_list.opened.Opening.{Opening}
use Rattle.semver_sets.proofs.Sets.Openings.{found-admits, found-count, found-within, release-admits}
use Rattle.semver_sets.proofs.set_list.indexed.IndexedSets.admits.Goals as goal

pub returns-then-not-is_prerelease-clause-answer : goal.returns-then-not-is_prerelease-clause-answer
returns-then-not-is_prerelease-clause-answer g c =
    let v = g.V.AsVersion.seen c.args.version.now in
    let sets : List (Ends VersionValue) = c.args.self.now in
    let release : ¬ IsPrerelease v = λ pre. cc (c.if-not-is_prerelease.true, c.is_prerelease.ensures.1 pre) in
    let admits = release-admits v release sets in
    let inside = subst (λ (l : List (Ends VersionValue)). IsTrue c.is_in_some.result
    ↔ IsInSome version_cmp l (Before v))
    c.merged.ensures c.is_in_some.ensures.inside in
    (λ h. admits.0 (inside.0 h), λ is. inside.1 (admits.1 is))

pub returns-then-not-is_prerelease-clause-short : goal.returns-then-not-is_prerelease-clause-short
returns-then-not-is_prerelease-clause-short g c =
    let release : ¬ IsPrerelease (g.V.AsVersion.seen c.args.version.now) =
    λ pre. cc (c.if-not-is_prerelease.true, c.is_prerelease.ensures.1 pre) in
    record {
      adds = c.is_in_some.ensures.adds;
      release = λ _ digits fits. c.is_in_some.ensures.short digits
          (subst (λ (l : List (Ends VersionValue)). HasDigits (count_of_starts version_cmp l) digits)
          (sym c.merged.ensures) fits);
      prerelease = λ pre. absurd (release pre);
      admitted = λ is.
          c.is_in_some.ensures.admitted ((returns-then-not-is_prerelease-clause-answer g c).1 is);
    }

pub is_in_opened-requires : goal.is_in_opened-requires
is_in_opened-requires g c =
    let v = g.V.AsVersion.seen c.args.version.now in
    let many : 4 < length c.self.inside.sets.items =
    omega (arith, c.deref-3.ensures.len, ap length c.deref-3.ensures.value, c.len.ensures, c.if-len-le-FEW_SETS.false)
    in
    let found : c.openings_at-openings.result.now ≡ filter
    (is_opening_of v) c.self.inside.openings.items = search rules in
    let places : map (λ (o : Opening). o.place) c.openings_at-openings.result.now ≡ places_opening v 0 c.args.self.now =
    ap (map (λ (o : Opening). o.place)) found ∙ (c.self.invariant.1 many).places v ∙ ap (places_opening v 0)
    c.self.view_is in
    let same = c.deref-3.ensures.value ∙ c.self.view_is in
    subst (λ (l : List (Ends VersionValue)). AllByRecursion
    (λ o. o.place < length l) c.openings_at-openings.result.now) (sym same)
    (found-within v (c.is_prerelease.ensures.0 c.if-not-is_prerelease.false) c.args.self.now
    c.openings_at-openings.result.now places)

pub returns-clause-answer : goal.returns-clause-answer
returns-clause-answer g c =
    let v = g.V.AsVersion.seen c.args.version.now in
    let many : 4 < length c.self.inside.sets.items =
    omega (arith, c.deref-3.ensures.len, ap length c.deref-3.ensures.value, c.len.ensures, c.if-len-le-FEW_SETS.false)
    in
    let found = c.openings_at-openings.result.now in
    let filtered : found ≡ filter (is_opening_of v) c.self.inside.openings.items = search rules in
    let places : map (λ (o : Opening). o.place) found ≡ places_opening v 0 c.args.self.now =
    ap (map (λ (o : Opening). o.place)) filtered ∙ (c.self.invariant.1 many).places v ∙ ap
    (places_opening v 0) c.self.view_is in
    let same = c.deref-3.ensures.value ∙ c.self.view_is in
    let admits = found-admits v (c.is_prerelease.ensures.0 c.if-not-is_prerelease.false) c.args.self.now found places in
    let inside = subst (λ (l : List (Ends VersionValue)). IsTrue c.is_in_opened.result
    ↔ AnyByRecursion (λ o. IsInside v (span_at l o.place)) found) same c.is_in_opened.ensures.inside in
    (λ h. admits.0 (inside.0 h), λ is. inside.1 (admits.1 is))

pub returns-clause-short : goal.returns-clause-short
returns-clause-short g c =
    let v = g.V.AsVersion.seen c.args.version.now in
    let many : 4 < length c.self.inside.sets.items =
    omega (arith, c.deref-3.ensures.len, ap length c.deref-3.ensures.value, c.len.ensures, c.if-len-le-FEW_SETS.false)
    in
    let found = c.openings_at-openings.result.now in
    let filtered : found ≡ filter (is_opening_of v) c.self.inside.openings.items = search rules in
    let places : map (λ (o : Opening). o.place) found ≡ places_opening v 0 c.args.self.now =
    ap (map (λ (o : Opening). o.place)) filtered ∙ (c.self.invariant.1 many).places v ∙ ap
    (places_opening v 0) c.self.view_is in
    let pre : IsPrerelease v = c.is_prerelease.ensures.0 c.if-not-is_prerelease.false in
    let count = found-count v pre c.args.self.now found places in
    record {
      adds = c.is_in_opened.ensures.adds;
      release = λ no. absurd (no pre);
      prerelease = λ _. omega (arith, count);
      admitted = λ is. c.is_in_opened.ensures.admitted ((returns-clause-answer g c).1 is);
    }
