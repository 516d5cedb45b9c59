-- The greatest of the versions that the texts write is the newest.
use Rattle.std.proofs.Common.{◌≡◌, ◌∙◌, List, ap, refl, subst, sym}
use Rattle.std.proofs.lemmas.List.{map-id}
use Rattle.node_semver.specs.Greatest.{AdmitsNoneIn, IsGreatestAdmitted}
use Rattle.node_semver.specs.Versions.{VersionValue}
use Rattle.node_semver_callers.specs.Newest.{IsNewest}
use Rattle.node_semver_callers.proofs.NewestOfTexts.{newest-of_texts, none-offered}
use Rattle.node_semver_callers.proofs.newest.newest.Goals as goal

pub returns-in-Some-clause-newest : goal.returns-in-Some-clause-newest
returns-in-Some-clause-newest c =
    let found : IsGreatestAdmitted c.args.range.now c.in_ok-versions.versions.items c.in-Some.newest.now =
    subst (λ (l : List VersionValue). IsGreatestAdmitted c.args.range.now l c.in-Some.newest.now)
    (map-id c.deref.result.now ∙ c.deref.ensures.value) c.in-Some.ensures.greatest in
    subst (IsNewest c.args.range.now _) (sym c.in_ok-to_version-in-Some.ensures.copy)
    (newest-of_texts c.args.range.now _ c.in_ok-versions.versions.items c.in_ok-versions.ensures c.in-Some.newest.now
    found)

pub returns-in-Some-clause-none : goal.returns-in-Some-clause-none
returns-in-Some-clause-none c =
    let newest = returns-in-Some-clause-newest c in
    (λ e. cc e, λ none. absurd (none c.in_ok-to_version-in-Some.field-0 newest.offered))

pub returns-clause-none : goal.returns-clause-none
returns-clause-none c =
    let none : AdmitsNoneIn c.args.range.now c.in_ok-versions.versions.items =
    subst (AdmitsNoneIn c.args.range.now) (map-id c.deref.result.now ∙ c.deref.ensures.value)
    (c.in-None.ensures.none.0 refl) in
    (λ e. none-offered c.args.range.now _ c.in_ok-versions.versions.items c.in_ok-versions.ensures none, λ e. refl)
