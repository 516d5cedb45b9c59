-- Advisories that are about each release, and what is found of a package by its hits.
use Rattle.std.proofs.Common.{◌≡◌, ◌≢◌, ◌↔◌, ◌∙◌, ℕ, List, [], ◌∷◌, Bool, Option, Some, None, true, false, ap, arith, cond}
use Rattle.std.proofs.Common.{◌<◌, ◌≤◌, ◌+◌, ◌++◌, IsNone, append_assoc, drop, filter, get_or, inl, inr, is_none, is_some, length, map, not, refl, subst, sym}
use Rattle.std.proofs.lemmas.List.{append-nil, drop_all, drop_more}
use Rattle.std.specs.List.{AllZip}
use Rattle.std.specs.Option.{MatchOption}
use Rattle.semver_cuts.specs.Ends.{Ends}
use Rattle.semver_texts.specs.Order.{before_release, by_identifiers, by_major, by_minor, by_patch}
use Rattle.node_semver.specs.Least.{IsNoneOf}
use Rattle.node_semver.specs.RangeAlgebra.{sets_of_answer}
use Rattle.node_semver.specs.Ranges.{RangeContains}
use Rattle.node_semver.specs.Versions.{IsBelow, IsPrerelease, VersionValue, release}
use Rattle.npm_advisories.specs.Advisories.{AboutValue, AdvisoryValue, about_name, about_value}
use Rattle.npm_advisories.specs.Audit.{FoundValue, IsKnownAs, IsSpared, found_value, installed_value, known_version, version_or_least}
use Rattle.npm_advisories.specs.Hits.{AreHits, AreKept, IsAboutEach, Known, kept, left, none, said, unsaid}
use Rattle.npm_advisories.specs.Index.{IsAdvisory}
use Rattle.npm_advisories.specs.Offers.{IsLeastOrNone}
use Rattle.npm_advisories.specs.Private.Auditing.{IsFoundOf, IsFoundWith}
use Rattle.npm_advisories.specs.Private.Covering.{AreCovered, IsFreeFrom}
use Rattle.npm_advisories.specs.Private.Spans.{IsInRange, IsOfEach}
use Rattle.npm_advisories.specs.ReadVersions.{IsReadAs}
use Rattle.npm_advisories.specs.Severities.{is_at_least}
use Rattle.npm_advisories.specs.declared.advisory.Advisory.{Advisory}
use Rattle.npm_advisories.specs.declared.found.Found.{Found}
use Rattle.npm_advisories.specs.declared.found.Installed.{Installed}
use Rattle.npm_advisories.specs.declared.severity.Severity.{Severity}
use Rattle.npm_advisories.proofs.Keeping.{admitted-same, unhit-same}
use Rattle.npm_advisories.proofs.Releases.{contains-or_not}
use Rattle.npm_advisories.proofs.Results.{same-offer}

-- ---- spans that contain each release

abbrev pub HaveEach : List (Ends VersionValue) → Type 0
HaveEach spans = (v : VersionValue) → ¬ IsPrerelease v → RangeContains spans v

-- no release is below 0.0.0
from-zero : (v : VersionValue) → ¬ IsPrerelease v → ¬ IsBelow v (release 0 0 0)
from-zero v is (by_major h) = absurd (omega (arith, h))
from-zero v is (by_minor a h) = absurd (omega (arith, h))
from-zero v is (by_patch a b h) = absurd (omega (arith, h))
from-zero v is (before_release t pre other) = is pre
from-zero v is (by_identifiers t pre other below) = is pre

-- spans contain each release if no release is free of them
pub none-free : (spans : List (Ends VersionValue)) → IsNoneOf (IsFreeFrom spans (release 0 0 0)) ↔ HaveEach spans
none-free spans = (
  λ none v is. elim (contains-or_not spans v) [
    | inl contains ↦ contains
    | inr free ↦ absurd (none v (record { release = is; reached = from-zero v is; free = free }))
  ],
  λ each v free. free.free (each v free.release),
)

-- ---- advisories that are kept

-- where one release is free of all advisories, none of them is about each
none-about : (advisories : List Advisory) → ¬ ((v : VersionValue) → ¬ IsPrerelease v → IsInRange advisories v)
    → AreKept IsOfEach (λ advisory. about_value advisory.about) advisories []
none-about [] not = none
none-about (one ∷ advisories) not = left one advisories [] (λ each. not (λ v is. inl (each v is)))
    (none-about advisories (λ all. not (λ v is. inr (all v is))))

pub none-each : (advisories : List Advisory) (covered : List (Ends VersionValue)) → AreCovered covered (IsInRange advisories)
    → ¬ HaveEach covered → AreKept IsOfEach (λ advisory. about_value advisory.about) advisories []
none-each advisories covered same not =
    none-about advisories (λ all. not (λ v is. (same.exact v is).1 (all v is)))

-- ---- those that are kept of a list, one after the other

module _ {A B : Type 0} (Holds : A → Type 0) (seen : A → B) (xs : List A) where
  -- what was found so far, before what is found from this place on, is what is found of all
  abbrev pub IsFoundTo : (i : ℕ) → (found : List B) → Type 0
  IsFoundTo i found = (rest : List B) → AreKept Holds seen (drop i xs) rest → AreKept Holds seen xs (found ++ rest)

  module _ (i : ℕ) (one : A) (lt : i < length xs) (is : one ≡ get_or xs i one) (found : List B) (before : IsFoundTo i found) where
    pub one-found : Holds one → IsFoundTo (i + 1) (found ++ (seen one ∷ []))
    one-found here rest are = subst (AreKept Holds seen xs) (sym (append_assoc found (seen one ∷ []) rest))
        (before (seen one ∷ rest) (rw (drop_more xs i one lt, ← is) (kept one (drop (i + 1) xs) rest here are)))

    pub none-found : ¬ Holds one → IsFoundTo (i + 1) found
    none-found not rest are = before rest (rw (drop_more xs i one lt, ← is) (left one (drop (i + 1) xs) rest not are))

  pub all-found : (i : ℕ) (found : List B) → length xs ≤ i → IsFoundTo i found → AreKept Holds seen xs found
  all-found i found end all = subst (AreKept Holds seen xs) (append-nil found) (all [] (rw (drop_all i xs end) none))

-- ---- values that are kept

one_kept : {A B : Type 0} (f : A → B) (b : Bool) (x : A) (xs : List A) (ys : List B) → map f xs ≡ ys
    → map f (cond b (x ∷ xs) xs) ≡ cond b (f x ∷ ys) ys
one_kept f true x xs ys same = ap (λ l. f x ∷ l) same
one_kept f false x xs ys same = same

pub map-kept : {A B : Type 0} (f : A → B) (test : B → Bool) (xs : List A)
    → map f (filter (λ x. test (f x)) xs) ≡ filter test (map f xs)
map-kept f test [] = refl
map-kept f test (x ∷ xs) =
    one_kept f (test (f x)) x (filter (λ x. test (f x)) xs) (filter test (map f xs)) (map-kept f test xs)

-- ---- the hits of a package without a version

module _ (level : Severity) where
  abbrev is_severe : AboutValue → Bool
  is_severe about = is_at_least level about.severity

  one-hit : (severe : Bool) (about : AboutValue) → is_severe about ≡ severe → (value : AdvisoryValue) (values : List AdvisoryValue)
      (rest : List AboutValue) → value.about ≡ about → IsAboutEach value.affected → AreHits level unsaid values rest
      → AreHits level unsaid (value ∷ values) (cond severe (about ∷ rest) rest)
  one-hit true about is value values rest same each more =
      subst (λ a. AreHits level unsaid (value ∷ values) (a ∷ rest)) same
      (kept value values rest (record { severe = ap is_severe same ∙ is; affects = each }) more)
  one-hit false about is value values rest same each more =
      left value values rest (λ hit. let no : false ≡ true = sym is ∙ sym (ap is_severe same) ∙ hit.severe in absurd (cc no)) more

  -- those of the advisories about each release that are of the level
  pub each-hits : (values : List AdvisoryValue) (advisories : List Advisory) (each : List AboutValue)
      → AllZip IsAdvisory values advisories
      → AreKept IsOfEach (λ advisory. about_value advisory.about) advisories each
      → AreHits level unsaid values (filter is_severe each)
  each-hits [] _ _ are none = none
  each-hits (value ∷ values) _ _ are none = absurd are
  each-hits [] _ _ are (kept one advisories each here more) = absurd are
  each-hits [] _ _ are (left one advisories each not more) = absurd are
  each-hits (value ∷ values) _ _ are (kept one advisories each here more) =
      one-hit (is_severe (about_value one.about)) (about_value one.about) refl value values (filter is_severe each)
      (sym are.0.about) (λ v is. (are.0.range.means v).0 (here v is)) (each-hits values advisories each are.1 more)
  each-hits (value ∷ values) _ _ are (left one advisories each not more) =
      left value values (filter is_severe each) (λ hit. not (λ v is. (are.0.range.means v).1 (hit.affects v is)))
      (each-hits values advisories each are.1 more)

-- ---- what is known of a version

pub only-said : (text : List ℕ) (v : Option VersionValue) → ((w : Option VersionValue) → IsReadAs text w → w ≡ v)
    → (other : Known) → IsKnownAs (Some text) other → other ≡ said v
only-said text v only (said w) is = ap said (only w is)
only-said text v only unsaid is = absurd is

pub only-unsaid : (other : Known) → IsKnownAs None other → other ≡ unsaid
only-unsaid (said v) is = absurd is
only-unsaid unsaid is = refl

-- ---- what is found by hits

-- a package about whose name there are no advisories is spared
pub none-spared : (level : Severity) (values : List AdvisoryValue) → AllZip IsAdvisory values [] → (known : Known)
    → AreHits level known values []
none-spared level [] are known = none
none-spared level (value ∷ values) are known = absurd are

module _ (level : Severity) (values : List AdvisoryValue) (installed : Installed) (advisories : List Advisory)
    (read : AllZip IsAdvisory (about_name installed.name.now values) advisories) (covered : List (Ends VersionValue))
    (same : AreCovered covered (IsInRange advisories)) (known : Known) (is : IsKnownAs (installed_value installed).version known)
    (only : (other : Known) → IsKnownAs (installed_value installed).version other → other ≡ known) (hits : List AboutValue)
    (are : AreHits level known (about_name installed.name.now values) hits) where
  abbrev advised : List AdvisoryValue
  advised = about_name installed.name.now values

  abbrev above : VersionValue
  above = version_or_least (known_version known)

  pub found-or_spared : (found : Option Found) → MatchOption found (hits ≡ [])
      (λ found. IsFoundWith covered (installed_value installed) (known_version known) hits (found_value found))
      → MatchOption found (IsSpared level advised (installed_value installed)) (IsFoundOf level values installed)
  found-or_spared None nothing = λ other text. subst (λ k. AreHits level k advised []) (sym (only other text))
      (subst (AreHits level known advised) nothing are)
  found-or_spared (Some found) such = record {
    known = known;
    is = record {
      folder = such.folder;
      name = such.name;
      version = such.version;
      read = is;
      hits = subst (AreHits level known advised) (sym such.hits) are;
      some = subst (λ l. l ≢ []) (sym such.hits) such.some;
      least = same-offer (unhit-same advised advisories read covered same above) (found_value found).least such.least;
      admitted = same-offer (admitted-same advised advisories read covered same above (installed_value installed).asked)
          (found_value found).admitted such.admitted;
    };
  }

-- ---- the tests of these

none-of : (found : Option VersionValue) → is_none found ≡ true → IsNone found
none-of None is = refl
none-of (Some v) is = absurd (cc is)

of-none : (found : Option VersionValue) → IsNone found → is_none found ≡ true
of-none None is = refl
of-none (Some v) is = absurd (cc is)

pub not-some : (found : Option VersionValue) (result : Bool) → is_some found ≡ not result → result ≡ is_none found
not-some None true is = refl
not-some None false is = absurd (cc is)
not-some (Some v) true is = absurd (cc is)
not-some (Some v) false is = refl

-- no release from 0.0.0 on is free of the spans
pub each-by_none : (spans : List (Ends VersionValue)) (found : Option VersionValue) (result : Bool) → result ≡ is_none found
    → IsLeastOrNone (IsFreeFrom spans (release 0 0 0)) found → (result ≡ true) ↔ HaveEach spans
each-by_none spans found result is least = (
  λ yes. (none-free spans).0 (least.none.0 (none-of found (sym is ∙ yes))),
  λ each. is ∙ of-none found (least.none.1 ((none-free spans).1 each)),
)

-- the releases of an advisory's sets are those of the advisory
pub of-each-by : (one : Advisory) (sets covered : List (Ends VersionValue)) → sets ≡ sets_of_answer one.range
    → AreCovered covered (RangeContains sets) → HaveEach covered ↔ IsOfEach one
of-each-by one sets covered same are = (
  λ each v is. subst (λ s. RangeContains s v) same ((are.exact v is).0 (each v is)),
  λ each v is. (are.exact v is).1 (subst (λ s. RangeContains s v) (sym same) (each v is)),
)
