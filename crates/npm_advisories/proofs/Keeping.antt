-- Elements that are kept, one after another, and advisories that were read in place of those of a file.
use Rattle.std.proofs.Common.{◌≡◌, ◌↔◌, ◌++◌, ◌<◌, ◌+◌, ℕ, List, [], ◌∷◌, ap, get_or, inl, inr, length, map, sym, subst}
use Rattle.std.proofs.Common.{Option, Some, None, take, true}
use Rattle.std.proofs.lemmas.List.{map-append, take_more}
use Rattle.std.specs.List.{AllZip}
use Rattle.semver_cuts.specs.Ends.{Ends}
use Rattle.node_semver.specs.Versions.{VersionValue}
use Rattle.npm_advisories.specs.Advisories.{AboutValue, AdvisoryValue, about_value}
use Rattle.npm_advisories.specs.Hits.{AreHits, AreKept, IsAbout, IsHit, kept, left, none, said}
use Rattle.npm_advisories.specs.Offers.{IsAdmitted, IsAffected, IsUnhit}
use Rattle.npm_advisories.specs.Private.Covering.{AreCovered}
use Rattle.npm_advisories.specs.Private.Offering.{IsAdmittedBy, IsUnhitBy}
use Rattle.npm_advisories.specs.Index.{IsAdvisory}
use Rattle.npm_advisories.specs.Private.Spans.{IsHitBy, IsIn, IsInRange, IsPast}
use Rattle.npm_advisories.specs.Severities.{is_at_least}
use Rattle.npm_advisories.specs.declared.advisory.Advisory.{Advisory}
use Rattle.npm_advisories.specs.declared.severity.Severity.{Severity}

module _ {A B : Type 0} (Holds : A → Type 0) (seen : A → B) (x : A) where
  one-kept : (xs : List A) (ys : List B) → AreKept Holds seen xs ys → Holds x
      → AreKept Holds seen (xs ++ x ∷ []) (ys ++ seen x ∷ [])
  one-kept _ _ none holds = kept x [] [] holds none
  one-kept _ _ (kept a xs ys here more) holds = kept a (xs ++ x ∷ []) (ys ++ seen x ∷ []) here
      (one-kept xs ys more holds)
  one-kept _ _ (left a xs ys not more) holds = left a (xs ++ x ∷ []) (ys ++ seen x ∷ []) not (one-kept xs ys more holds)

  one-left : (xs : List A) (ys : List B) → AreKept Holds seen xs ys → ¬ Holds x → AreKept Holds seen (xs ++ x ∷ []) ys
  one-left _ _ none other = left x [] [] other none
  one-left _ _ (kept a xs ys here more) other = kept a (xs ++ x ∷ []) ys here (one-left xs ys more other)
  one-left _ _ (left a xs ys not more) other = left a (xs ++ x ∷ []) ys not (one-left xs ys more other)

module _ {A B C : Type 0} (Holds : A → Type 0) (seen : A → B) (value : C → B) (xs : List A) (i : ℕ) (x : A)
    (lt : i < length xs) (is : x ≡ get_or xs i x) where
  -- the element at i is kept
  pub next-kept : (ys next : List C) (y : C) → AreKept Holds seen (take i xs) (map value ys) → Holds x
      → next ≡ ys ++ y ∷ [] → value y ≡ seen x → AreKept Holds seen (take (i + 1) xs) (map value next)
  next-kept ys next y before holds e same =
      rw (e, map-append value ys (y ∷ []), same, take_more xs i x lt, ← is)
      (one-kept Holds seen x (take i xs) (map value ys) before holds)

  -- the element at i is not
  pub next-left : (ys next : List C) → AreKept Holds seen (take i xs) (map value ys) → ¬ Holds x → next ≡ ys
      → AreKept Holds seen (take (i + 1) xs) (map value next)
  next-left ys next before other e =
      rw (e, take_more xs i x lt, ← is) (one-left Holds seen x (take i xs) (map value ys) before other)

-- ---- advisories that were read

in-about : (v : Option VersionValue) (value : AdvisoryValue) (one : Advisory) → IsAdvisory value one
    → IsIn one v ↔ IsAbout value.affected (said v)
in-about (Some v) value one is = is.range.means v
in-about None value one is = (λ any. any, λ any. any)

module _ (level : Severity) (v : Option VersionValue) where
  hit-same : (value : AdvisoryValue) (one : Advisory) → IsAdvisory value one → IsHitBy level v one ↔ IsHit level (said v) value
  hit-same value one is =
      let same = ap (λ (about : AboutValue). about.severity) is.about in (
        λ hit. record {
          severe = subst (λ s. is_at_least level s ≡ true) same hit.severe;
          affects = (in-about v value one is).0 hit.contained;
        },
        λ hit. record {
          severe = subst (λ s. is_at_least level s ≡ true) (sym same) hit.severe;
          contained = (in-about v value one is).1 hit.affects;
        },
      )

  -- those that hit were read of those that hit
  pub hits-same : (values : List AdvisoryValue) (advisories : List Advisory) (hits : List AboutValue)
      → AllZip IsAdvisory values advisories
      → AreKept (IsHitBy level v) (λ advisory. about_value advisory.about) advisories hits
      → AreHits level (said v) values hits
  hits-same [] _ _ are none = none
  hits-same (value ∷ values) _ _ are none = absurd are
  hits-same [] _ _ are (kept one advisories hits here more) = absurd are
  hits-same [] _ _ are (left one advisories hits not more) = absurd are
  hits-same (value ∷ values) _ _ are (kept one advisories hits here more) =
      subst (λ about. AreHits level (said v) (value ∷ values) (about ∷ hits)) (sym are.0.about)
      (kept value values hits ((hit-same value one are.0).0 here) (hits-same values advisories hits are.1 more))
  hits-same (value ∷ values) _ _ are (left one advisories hits not more) =
      left value values hits (λ hit. not ((hit-same value one are.0).1 hit))
      (hits-same values advisories hits are.1 more)

-- what none of the advisories is about none of them hits
pub none-hit : (level : Severity) (v : Option VersionValue) (advisories : List Advisory) → IsPast advisories v
    → AreKept (IsHitBy level v) (λ advisory. about_value advisory.about) advisories []
none-hit level (Some v) [] past = none
none-hit level (Some v) (one ∷ advisories) past =
    left one advisories [] (λ hit. past (inl hit.contained)) (none-hit level (Some v) advisories (λ some. past (inr some)))
none-hit level None advisories past = absurd past

-- one of the advisories is about a version, as one of those of the file is
pub affected-same : (values : List AdvisoryValue) (advisories : List Advisory) (v : VersionValue)
    → AllZip IsAdvisory values advisories → IsInRange advisories v ↔ IsAffected values v
affected-same [] [] v are = (λ is. is, λ is. is)
affected-same [] (one ∷ advisories) v are = absurd are
affected-same (value ∷ values) [] v are = absurd are
affected-same (value ∷ values) (one ∷ advisories) v are =
    let rest = affected-same values advisories v are.1 in (
      λ is. elim is [
        | inl here ↦ inl ((are.0.range.means v).0 here)
        | inr there ↦ inr (rest.0 there)
      ],
      λ is. elim is [
        | inl here ↦ inl ((are.0.range.means v).1 here)
        | inr there ↦ inr (rest.1 there)
      ],
    )

module _ (values : List AdvisoryValue) (advisories : List Advisory) (are : AllZip IsAdvisory values advisories)
    (covered : List (Ends VersionValue)) (same : AreCovered covered (IsInRange advisories)) (installed : VersionValue) where
  pub unhit-same : (v : VersionValue) → IsUnhitBy covered installed v ↔ IsUnhit values installed v
  unhit-same v = let affected = affected-same values advisories v are in (
    λ is. record {
      release = is.release;
      above = is.above;
      unhit = λ hit. is.unhit ((same.exact v is.release).1 (affected.1 hit));
    },
    λ is. record {
      release = is.release;
      above = is.above;
      unhit = λ hit. is.unhit (affected.0 ((same.exact v is.release).0 hit));
    },
  )

  pub admitted-same : (asked : List (List ℕ)) (v : VersionValue)
      → IsAdmittedBy covered asked installed v ↔ IsAdmitted values asked installed v
  admitted-same asked v = (
    λ is. record { unhit = (unhit-same v).0 is.unhit; admitted = is.admitted },
    λ is. record { unhit = (unhit-same v).1 is.unhit; admitted = is.admitted },
  )
