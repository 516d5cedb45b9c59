-- The advisories of the index about the name were read of those of the file.
use Rattle.std.proofs.Common.{◌≡◌, ◌∙◌, Some, None, ap, map, option_map, subst, sym}
use Rattle.std.proofs.lemmas.Result.{IfOk-weaker}
use Rattle.std.specs.List.{AllZip}
use Rattle.npm_advisories.specs.Advisories.{about_name, about_value}
use Rattle.npm_advisories.specs.Audit.{IsKnownAs}
use Rattle.npm_advisories.specs.Hits.{AreHits, Known, said, unsaid}
use Rattle.npm_advisories.specs.Index.{IsAdvisory}
use Rattle.npm_advisories.specs.Private.Covering.{AreCovered}
use Rattle.npm_advisories.specs.Private.Spans.{IsInRange}
use Rattle.npm_advisories.proofs.EachRelease.{each-hits, found-or_spared, none-spared, only-said, only-unsaid}
use Rattle.npm_advisories.proofs.Keeping.{hits-same}
use Rattle.npm_advisories.proofs.LeastVersion.{end-or_least, least-end}
use Rattle.npm_advisories.proofs.Uniting.{known-empty, known-union}
use Rattle.npm_advisories.proofs.found.found_of.Goals as goal

pub returns-in_default : goal.returns-in_default
returns-in_default c = λ values are known text.
    let name = c.args.installed.now.name.now in
    none-spared c.args.level (about_name name values)
    (subst (AllZip IsAdvisory (about_name name values)) (sym c.in_default.ensures) are) known

pub returns-in_default-at : goal.returns-in_default-at
returns-in_default-at c = λ values are known text.
    let name = c.args.installed.now.name.now in
    let empty = known-empty c.args.index.now name _ (sym c.in_default-at.ensures) c.requires in
    none-spared c.args.level (about_name name values) (subst (AllZip IsAdvisory (about_name name values)) empty are) known

pub hits-requires : goal.hits-requires
hits-requires c =
    let name = c.args.installed.now.name.now in
    rw c.in-Some.ensures
    (known-union c.args.index.now name _ c.in-Some-at.union.now (sym c.in-Some-at.ensures) c.requires)

pub found_with-requires-clause-end : goal.found_with-requires-clause-end
found_with-requires-clause-end c = end-or_least c.read_version-version.result c.read_version-version.ensures.end

pub found_with-requires-in-None-clause-end : goal.found_with-requires-in-None-clause-end
found_with-requires-in-None-clause-end c = least-end

pub returns-in_ok-hits-in-Some-version : goal.returns-in_ok-hits-in-Some-version
returns-in_ok-hits-in-Some-version c = IfOk-weaker c.found_with.result _ _ (λ found made values are.
    let name = c.args.installed.now.name.now in
    let version = c.read_version-version.result in
    let text : option_map (λ t. t.now) c.args.installed.now.version ≡ Some c.in-Some-version.text.now =
    ap (option_map (λ t. t.now)) c.in-Some-version.is in
    let read = subst (AllZip IsAdvisory (about_name name values)) (sym c.in-Some.ensures) are in
    let union = known-union c.args.index.now name _ c.in-Some-at.union.now (sym c.in-Some-at.ensures) c.requires in
    let same : AreCovered c.covered.result.now (IsInRange c.in-Some.advisories.now) =
    rw (c.covered.ensures, c.in-Some.ensures) union.covered in
    found-or_spared c.args.level values c.args.installed.now c.in-Some.advisories.now read c.covered.result.now same
    (said version) (subst (λ t. IsKnownAs t (said version)) (sym text) c.read_version-version.ensures.read)
    (subst (λ t. (other : Known) → IsKnownAs t other → other ≡ said version) (sym text)
    (only-said c.in-Some-version.text.now version c.read_version-version.ensures.only)) (map about_value c.in_ok-hits-in-Some-version.hits.items)
    (hits-same c.args.level version (about_name name values) c.in-Some.advisories.now _ read c.in_ok-hits-in-Some-version.ensures) found made)
    c.found_with.ensures

pub returns-in_ok-hits-in-None : goal.returns-in_ok-hits-in-None
returns-in_ok-hits-in-None c = IfOk-weaker c.found_with-in-None.result _ _ (λ found made values are.
    let name = c.args.installed.now.name.now in
    let text : option_map (λ t. t.now) c.args.installed.now.version ≡ None = ap (option_map (λ t. t.now)) c.in-None.is in
    let read = subst (AllZip IsAdvisory (about_name name values)) (sym c.in-Some.ensures) are in
    let union = known-union c.args.index.now name _ c.in-Some-at.union.now (sym c.in-Some-at.ensures) c.requires in
    let same : AreCovered c.covered-in-None.result.now (IsInRange c.in-Some.advisories.now) =
    rw (c.covered-in-None.ensures, c.in-Some.ensures) union.covered in
    found-or_spared c.args.level values c.args.installed.now c.in-Some.advisories.now read c.covered-in-None.result.now same
    unsaid (subst (λ t. IsKnownAs t unsaid) (sym text) tt)
    (subst (λ t. (other : Known) → IsKnownAs t other → other ≡ unsaid) (sym text) only-unsaid)
    (map about_value c.in_ok-hits-in-None.hits.items)
    (subst (AreHits c.args.level unsaid (about_name name values)) (sym c.in_ok-hits-in-None.ensures)
    (each-hits c.args.level (about_name name values) c.in-Some.advisories.now _ read (rw c.in-Some.ensures union.each))) found made)
    c.found_with-in-None.ensures
