-- The versions that are offered, by the spans of those that are not.
use Rattle.std.proofs.Common.{◌≡◌, ◌↔◌, ◌<◌, ◌+◌, ◌≤◌, ℕ, List, [], ◌∷◌, ◌++◌, None, arith, get_or, length}
use Rattle.std.proofs.Common.{map, refl, suc, sym, take, zero}
use Rattle.std.proofs.Common.{subst}
use Rattle.std.proofs.lemmas.List.{map-append, take_all, take_more}
use Rattle.std.specs.List.{AllByRecursion}
use Rattle.semver_cuts.specs.Ends.{Ends}
use Rattle.semver_cuts.specs.Lemmas.Lists.{all_push}
use Rattle.node_semver.specs.Ranges.{RangeContains}
use Rattle.node_semver.specs.Versions.{IsPrerelease, VersionValue}
use Rattle.npm_advisories.specs.Offers.{IsAskedFor, IsLeastOrNone}
use Rattle.npm_advisories.specs.Private.Covering.{AreCovered, IsAdmittedFrom, IsFreeFrom, IsFreeOfBoth, IsReleaseAbove}
use Rattle.npm_advisories.specs.Private.Offering.{IsAdmittedBy, IsUnhitBy}

module _ (covered : List (Ends VersionValue)) (installed next : VersionValue) (is : IsReleaseAbove installed next) where
  -- a release from the least above the installed version on is above it
  pub free-unhit : (v : VersionValue) → IsFreeFrom covered next v ↔ IsUnhitBy covered installed v
  free-unhit v = (
    λ free. record {
      release = free.release;
      above = (is.least v free.release).1 free.reached;
      unhit = free.free;
    },
    λ unhit. record {
      release = unhit.release;
      reached = (is.least v unhit.release).0 unhit.above;
      free = unhit.unhit;
    },
  )

  pub free-admitted : (asked : List (List ℕ)) (v : VersionValue)
      → IsAdmittedFrom covered asked next v ↔ IsAdmittedBy covered asked installed v
  free-admitted asked v = (
    λ is_from. record { unhit = (free-unhit v).0 is_from.free; admitted = is_from.admitted },
    λ is_by. record { free = (free-unhit v).1 is_by.unhit; admitted = is_by.admitted },
  )

-- ---- the range texts of dependents

-- the element at a place within a list, with any two defaults
pub same-at : {X : Type 0} (xs : List X) (i : ℕ) (d e : X) → i < length xs → get_or xs i d ≡ get_or xs i e
same-at [] i d e lt = absurd (omega arith)
same-at (x ∷ xs) zero d e lt = refl
same-at (x ∷ xs) (suc i) d e lt = same-at xs i d e (omega arith)

module _ {X : Type 0} (now : X → List ℕ) (asked : List X) (v : VersionValue) where
  abbrev pub Asked : ℕ → Type 0
  Asked i = AllByRecursion (λ text. IsAskedFor text v) (map now (take i asked))

  -- one text more
  pub asked-more : (i : ℕ) (one : X) → i < length asked → one ≡ get_or asked i one
      → (Asked i × IsAskedFor (now one) v) ↔ Asked (i + 1)
  asked-more i one lt is =
      rw (take_more asked i one lt, ← is, map-append now (take i asked) (one ∷ [])) (
        λ both. all_push (λ text. IsAskedFor text v) (map now (take i asked)) (now one) both.0 both.1,
        λ all. split (map now (take i asked)) all,
      ) where
        split : (texts : List (List ℕ)) → AllByRecursion (λ text. IsAskedFor text v) (texts ++ now one ∷ [])
            → AllByRecursion (λ text. IsAskedFor text v) texts × IsAskedFor (now one) v
        split [] all = (tt, all.0)
        split (t ∷ texts) all = let rest = split texts all.1 in ((all.0, rest.0), rest.1)

  -- all texts
  pub asked-all : (i : ℕ) → length asked ≤ i → Asked i ≡ AllByRecursion (λ text. IsAskedFor text v) (map now asked)
  asked-all i done = rw (take_all i asked done) refl

-- the spans after some texts: the releases outside are those that the texts admit
abbrev pub AreAskedSpans : {X : Type 0} → (X → List ℕ) → (asked : List X) → (spans : List (Ends VersionValue)) → ℕ
    → Type 0
AreAskedSpans now asked spans i = (v : VersionValue) → ¬ IsPrerelease v
    → (¬ RangeContains spans v) ↔ Asked now asked v i

module _ {X : Type 0} (now : X → List ℕ) (asked : List X) where
  pub asked-first : AreAskedSpans now asked [] 0
  asked-first v release = (λ not. tt, λ all contains. contains)

  pub asked-next : (spans new : List (Ends VersionValue)) (i : ℕ) (one : X) → i < length asked
      → one ≡ get_or asked i one → AreAskedSpans now asked spans i
      → ((v : VersionValue) → ¬ IsPrerelease v
      → (¬ RangeContains new v) ↔ ((¬ RangeContains spans v) × IsAskedFor (now one) v))
      → AreAskedSpans now asked new (i + 1)
  asked-next spans new i one lt is before step v release = (
    λ not.
        let here = (step v release).0 not in
        (asked-more now asked v i one lt is).0 ((before v release).0 here.0, here.1),
    λ all.
        let parts = (asked-more now asked v i one lt is).1 all in
        (step v release).1 ((before v release).1 parts.0, parts.1),
  )

  module _ (covered : List (Ends VersionValue)) (from : VersionValue) where
    -- after all texts
    pub asked-free : (spans unasked : List (Ends VersionValue)) → AreCovered unasked (RangeContains spans) → (i : ℕ)
        → length asked ≤ i → AreAskedSpans now asked spans i → (v : VersionValue)
        → IsFreeOfBoth covered unasked from v ↔ IsAdmittedFrom covered (map now asked) from v
    asked-free spans unasked same i done are v = (
      λ both. record {
        free = both.free;
        admitted = subst (λ T. T) (asked-all now asked v i done) ((are v both.free.release).0
            (λ contains. both.other ((same.exact v both.free.release).1 contains)));
      },
      λ is. record {
        free = is.free;
        other = λ contains.
            (are v is.free.release).1 (subst (λ T. T) (sym (asked-all now asked v i done)) is.admitted)
            ((same.exact v is.free.release).0 contains);
      },
    )

    -- a text that admits nothing
    pub none-asked : (i : ℕ) (one : X) → i < length asked → one ≡ get_or asked i one
        → ((v : VersionValue) → ¬ IsAskedFor (now one) v)
        → IsLeastOrNone (IsAdmittedFrom covered (map now asked) from) None
    none-asked i one lt is none = record {
      least = tt;
      none = (λ _ v is_admitted. none v (at_one v asked i lt is is_admitted.admitted), λ _. refl);
      build = tt;
    } where
      at_one : (v : VersionValue) (xs : List X) (k : ℕ) → k < length xs → one ≡ get_or xs k one
          → AllByRecursion (λ text. IsAskedFor text v) (map now xs) → IsAskedFor (now one) v
      at_one v [] k lt e all = absurd (omega arith)
      at_one v (y ∷ xs) zero lt e all = let P : X → Type 0 = λ x. IsAskedFor (now x) v in subst P (sym e) all.0
      at_one v (y ∷ xs) (suc k) lt e all = at_one v xs k (omega arith) e all.1
