-- The hits of a list are those of its halves.
use Rattle.std.proofs.Common.{◌≡◌, ◌++◌, ◌∙◌, ℕ, List, ap, drop, map, subst, take}
use Rattle.std.proofs.lemmas.List.{map-append, take-append-drop}
use Rattle.node_semver.specs.Versions.{VersionValue}
use Rattle.npm_advisories.specs.Advisories.{about_value}
use Rattle.npm_advisories.specs.Hits.{AreKept, kept, left, none}
use Rattle.npm_advisories.specs.Private.Spans.{IsHitBy}
use Rattle.npm_advisories.specs.declared.advisory.About.{About}
use Rattle.npm_advisories.specs.declared.advisory.Advisory.{Advisory}
use Rattle.npm_advisories.specs.declared.severity.Severity.{Severity}
use Rattle.std.proofs.Common.{Option}

-- the elements of two lists that are kept
kept-both : {A B : Type 0} (Holds : A → Type 0) (seen : A → B) (xs others : List A) (ys more : List B)
    → AreKept Holds seen xs ys → AreKept Holds seen others more → AreKept Holds seen (xs ++ others) (ys ++ more)
kept-both Holds seen _ others _ more none second = second
kept-both Holds seen _ others _ more (kept x xs ys here rest) second =
    kept x (xs ++ others) (ys ++ more) here (kept-both Holds seen xs others ys more rest second)
kept-both Holds seen _ others _ more (left x xs ys not rest) second =
    left x (xs ++ others) (ys ++ more) not (kept-both Holds seen xs others ys more rest second)

module _ (level : Severity) (v : Option VersionValue) where
  abbrev pub AreHit : List Advisory → List About → Type 0
  AreHit advisories hits = AreKept (IsHitBy level v) (λ advisory. about_value advisory.about) advisories (map about_value hits)

  pub kept-halves : (advisories ones others : List Advisory) (k : ℕ) → ones ≡ take k advisories
      → others ≡ drop k advisories → (first second : List About) → AreHit ones first → AreHit others second
      → AreHit advisories (first ++ second)
  kept-halves advisories ones others k front back first second here there =
      let whole : ones ++ others ≡ advisories =
      ap (λ l. l ++ others) front ∙ ap (λ l. take k advisories ++ l) back ∙ take-append-drop k advisories in
      rw (map-append about_value first second)
      (subst (λ l. AreKept (IsHitBy level v) (λ advisory. about_value advisory.about) l
      (map about_value first ++ map about_value second)) whole
      (kept-both (IsHitBy level v) (λ advisory. about_value advisory.about) ones others (map about_value first)
      (map about_value second) here there))
