use Rattle.std.proofs.Common.{◌≡◌, ◌∙◌, IsTrue, subst, sym}
use Rattle.node_semver.specs.Versions.{VersionValue}
use Rattle.npm_texts.specs.Admission.{Admits, of_dependencies}
use Rattle.npm_pick.specs.Lemmas.Readings.{one_version}
use Rattle.npm_pick.proofs.rank.rank_of.Goals.{then-not-satisfies-via-then-not-satisfies, then-not-satisfies-via-else-not-satisfies+then-not-is_published}
use Rattle.npm_pick.proofs.rank.rank_of.Goals as goal

pub returns-in_default-clause-none : goal.returns-in_default-clause-none
returns-in_default-clause-none c = λ rank ranked.
    let none = rw c.in_default.is at c.installed_version.ensures.none in absurd (none rank.version ranked.read)

pub returns-then-not-satisfies-clause-none : goal.returns-then-not-satisfies-clause-none
returns-then-not-satisfies-clause-none c = λ rank ranked. elim c.then-not-satisfies.branch [
  | then-not-satisfies-via-then-not-satisfies w ↦
      let same : rank.version ≡ c.in-Some.version =
      one_version c.args.key.now rank.version c.in-Some.version ranked.read c.in-Some.ensures.found in
      let yes : IsTrue c.satisfies.result = c.satisfies.ensures.1 ((c.requires.wanted c.in-Some.version).1
      (subst (λ (x : VersionValue). Admits of_dependencies c.args.asked.now.range.now x) same ranked.admitted)) in
      cc (yes, w.if-not-satisfies.true)
  | then-not-satisfies-via-else-not-satisfies+then-not-is_published w ↦
      cc (ranked.published, w.is_published.ensures, w.if-not-is_published.true)
]

pub returns-clause-found : goal.returns-clause-found
returns-clause-found c = record {
  read = c.in-Some.ensures.found;
  admitted = (c.requires.wanted c.in-Some.version).0 (c.satisfies.ensures.0 c.if-not-satisfies.false);
  published = sym c.is_published.ensures ∙ c.if-not-is_published.false;
  avoided = c.avoids.ensures;
  restricted = rw c.requires.restricted at c.is_listed.ensures;
  staged = rw c.requires.staged at c.is_listed-2.ensures;
  deprecated = c.has_true.ensures;
  fitting = c.in_ok-fits.ensures;
}
