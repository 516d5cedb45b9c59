-- A range that is added to documents, and a demand for it.
use Rattle.std.proofs.Common.{◌≡◌, ◌↔◌, ◌<◌, ◌++◌, ◌∙◌, ℕ, true, false, List, [], ◌∷◌, Option, Some, None, All, length, slice_get, zero, suc, refl, ap, sym, subst, arith}
use Rattle.std.proofs.lemmas.List.Elements.{All-nil}
use Rattle.std.proofs.lemmas.Option.{get_or_from_slice_get, slice_get_within}
use Rattle.version_solving.specs.declared.demand.Demand.{Demand}
use Rattle.version_solving.specs.declared.documents.Candidate.{Candidate}
use Rattle.version_solving.specs.declared.documents.Documents.{Documents}
use Rattle.version_solving.specs.declared.documents.Package.{Package}
use Rattle.version_solving.specs.declared.documents.Range.{Range}
use Rattle.version_solving.specs.Documents.{allowed_in, candidates_in, demands_in, problem_of}
use Rattle.version_solving.specs.Private.Changes.{HaveRanges}
use Rattle.version_solving.specs.Solving.{Problem}
use Rattle.version_solving.proofs.TurnedProblems.{IsTurned}

-- ---- lists

before_end : {X : Type 0} (xs ys : List X) (k : ℕ) → k < length xs → slice_get (xs ++ ys) k ≡ slice_get xs k
before_end [] ys k small = absurd (omega (arith, small))
before_end (x ∷ xs) ys zero small = refl
before_end (x ∷ xs) ys (suc k) small = before_end xs ys k (omega (arith, small))

at_end : {X : Type 0} (xs : List X) (y : X) → slice_get (xs ++ y ∷ []) (length xs) ≡ Some y
at_end [] y = refl
at_end (x ∷ xs) y = at_end xs y

all_at : {X : Type 0} (P : X → Type 0) (xs : List X) (k : ℕ) (x : X) → All P xs → slice_get xs k ≡ Some x → P x
all_at P xs k x all is = subst P (get_or_from_slice_get xs k x x is) (all k x (slice_get_within xs k x is))

-- ---- demands of candidates

module _ (P : Demand → Type 0) where
  of_candidate : (cs : List Candidate) → All (λ (c : Candidate). All P c.demands.items) cs → (k : ℕ) → All P (demands_in (slice_get cs k))
  of_candidate cs all k = by_kind (slice_get cs k) refl where
    by_kind : (o : Option Candidate) → slice_get cs k ≡ o → All P (demands_in o)
    by_kind None is = All-nil P
    by_kind (Some c) is = all_at (λ (c : Candidate). All P c.demands.items) cs k c all is

  of_package : (ps : List Package) → All (λ (one : Package). All (λ (c : Candidate). All P c.demands.items) one.candidates.items) ps
      → (name k : ℕ) → All P (demands_in (slice_get (candidates_in (slice_get ps name)) k))
  of_package ps all name k = by_kind (slice_get ps name) refl where
    by_kind : (o : Option Package) → slice_get ps name ≡ o → All P (demands_in (slice_get (candidates_in o) k))
    by_kind None is = All-nil P
    by_kind (Some one) is = of_candidate one.candidates.items
        (all_at (λ (one : Package). All (λ (c : Candidate). All P c.demands.items) one.candidates.items) ps name one all is) k

-- ---- a range more

module _ (others root : List Demand) (old new : Documents) (outside : Range) (name range : ℕ)
    (packages : new.packages ≡ old.packages) (grown : new.ranges.items ≡ old.ranges.items ++ outside ∷ [])
    (have : HaveRanges others old)
    (at_front : root ≡ record { name = name; range = length old.ranges.items; needed = true } ∷ others)
    (is_outside : (candidate : ℕ) → allowed_in (Some outside) candidate ≡ true
    ↔ (candidate < (problem_of [] old).count name × (problem_of [] old).allows range candidate ≡ false)) where
  there_is : (other candidate : ℕ) → allowed_in (slice_get old.ranges.items other) candidate ≡ true → other < length old.ranges.items
  there_is other candidate allowed = by_kind (slice_get old.ranges.items other) refl where
    by_kind : (o : Option Range) → slice_get old.ranges.items other ≡ o → other < length old.ranges.items
    by_kind None is =
        let no : false ≡ true = ap (λ o. allowed_in o candidate) (sym is) ∙ allowed in absurd (cc)
    by_kind (Some found) is = slice_get_within old.ranges.items other found is

  turned_allows : (candidate : ℕ) → allowed_in (slice_get new.ranges.items (length old.ranges.items)) candidate ≡ allowed_in (Some outside) candidate
  turned_allows candidate =
      ap (λ rs. allowed_in (slice_get rs (length old.ranges.items)) candidate) grown
      ∙ ap (λ o. allowed_in o candidate) (at_end old.ranges.items outside)

  pub is_turned : IsTurned (problem_of others old) (problem_of root new) name range (length old.ranges.items)
  is_turned = record {
    root = at_front;
    count = λ other. ap (λ ps. length (candidates_in (slice_get ps.items other))) packages;
    demands = λ other candidate. ap (λ ps. demands_in (slice_get (candidates_in (slice_get ps.items other)) candidate)) packages;
    allows = λ other candidate small. ap (λ rs. allowed_in (slice_get rs other) candidate) grown
        ∙ ap (λ o. allowed_in o candidate) (before_end old.ranges.items (outside ∷ []) other small);
    there = there_is;
    turned = λ candidate. (
      λ allowed. (is_outside candidate).0 (sym (turned_allows candidate) ∙ allowed),
      λ both. turned_allows candidate ∙ (is_outside candidate).1 both,
    );
    of_root = have.of_root;
    of_candidates = λ other candidate. of_package (λ (d : Demand). d.range < length old.ranges.items) old.packages.items have.of_candidates other candidate;
  }

-- ---- the same documents

abbrev posed : List Demand → List Package → List Range → Problem
posed root packages ranges = record {
  root = root;
  count = λ name. length (candidates_in (slice_get packages name));
  demands = λ name candidate. demands_in (slice_get (candidates_in (slice_get packages name)) candidate);
  allows = λ range candidate. allowed_in (slice_get ranges range) candidate;
}

pub same_problem : (root : List Demand) (new old : Documents) → new.ranges.items ≡ old.ranges.items → new.packages ≡ old.packages
    → problem_of root new ≡ problem_of root old
same_problem root new old ranges packages = ap (λ rs. posed root new.packages.items rs) ranges
    ∙ ap (λ ps. posed root ps.items old.ranges.items) packages
