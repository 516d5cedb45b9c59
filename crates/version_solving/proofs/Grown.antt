-- What stands for asks stands for them after more ranges are added.
use Rattle.std.proofs.Common.{◌≡◌, ◌∙◌, ◌<◌, ◌++◌, ◌+◌, ℕ, zero, suc, List, [], ◌∷◌, Some, append_assoc, add-one, append-nil, arith, ap, get_or, length, refl, sym, take}
use Rattle.std.specs.Prelude.{slice_get}
use Rattle.std.specs.List.{AllZip}
use Rattle.version_solving.specs.declared.demand.Demand.{Demand}
use Rattle.version_solving.specs.declared.documents.Candidate.{Candidate}
use Rattle.version_solving.specs.declared.documents.Package.{Package}
use Rattle.version_solving.specs.Naming.{AreCandidatesOf, AreDemandsOf, ArePackagesOf, IsCandidateOf, IsDemandOf, IsPackageOf, IsRangeAt}
use Rattle.version_solving.specs.Private.Growth.{Extends}
use Rattle.version_solving.specs.declared.ask.Ask.{Ask}
use Rattle.version_solving.specs.declared.ask.Asker.{Asker}
use Rattle.version_solving.specs.declared.ask.Listed.{Listed}
use Rattle.version_solving.specs.declared.wanted.Wanted.{Wanted}

-- ---- lists

pub there_still : {X : Type 0} (xs ys : List X) (k : ℕ) (x : X) → slice_get xs k ≡ Some x → slice_get (xs ++ ys) k ≡ Some x
there_still [] ys k x is = absurd (cc is)
there_still (y ∷ xs) ys zero x is = is
there_still (y ∷ xs) ys (suc k) x is = there_still xs ys k x is

zip_weaker : {X Y : Type 0} (R S : X → Y → Type 0) → ((x : X) (y : Y) → R x y → S x y) → (xs : List X) (ys : List Y)
    → AllZip R xs ys → AllZip S xs ys
zip_weaker R S weaker [] [] all = tt
zip_weaker R S weaker [] (y ∷ ys) all = absurd all
zip_weaker R S weaker (x ∷ xs) [] all = absurd all
zip_weaker R S weaker (x ∷ xs) (y ∷ ys) all = (weaker x y all.0, zip_weaker R S weaker xs ys all.1)

zip_push : {X Y : Type 0} (R : X → Y → Type 0) (xs : List X) (ys : List Y) (x : X) (y : Y) → AllZip R xs ys → R x y
    → AllZip R (xs ++ x ∷ []) (ys ++ y ∷ [])
zip_push R [] [] x y all one = (one, tt)
zip_push R [] (z ∷ ys) x y all one = absurd all
zip_push R (w ∷ xs) [] x y all one = absurd all
zip_push R (w ∷ xs) (z ∷ ys) x y all one = (all.0, zip_push R xs ys x y all.1 one)

take_push : {X : Type 0} (xs : List X) (i : ℕ) (d : X) → i < length xs → take (suc i) xs ≡ take i xs ++ (get_or xs i d ∷ [])
take_push [] i d inside = absurd (omega (arith, inside))
take_push (x ∷ xs) zero d inside = refl
take_push (x ∷ xs) (suc i) d inside = ap (λ zs. x ∷ zs) (take_push xs i d (omega (arith, inside)))

pub item_there : {X : Type 0} (xs : List X) (i : ℕ) (x : X) → i < length xs → x ≡ get_or xs i x → slice_get xs i ≡ Some x
item_there [] i x inside is = absurd (omega (arith, inside))
item_there (y ∷ xs) zero x inside is = ap Some (sym is)
item_there (y ∷ xs) (suc i) x inside is = item_there xs i x (omega (arith, inside)) is

-- ---- ranges that are added

pub extends_none : (ranges : List Wanted) → Extends ranges ranges
extends_none ranges = ([], sym (append-nil ranges))

pub extends_both : (old mid new : List Wanted) → Extends old mid → Extends mid new → Extends old new
extends_both old mid new h g = (h.0 ++ g.0, g.1 ∙ (ap (λ w. w ++ g.0) h.1 ∙ append_assoc old h.0 g.0))

module _ (names : List Listed) (old new : List Wanted) (extends : Extends old new) where
  range_grows : (number name : ℕ) (spec : List ℕ) → IsRangeAt old number name spec → IsRangeAt new number name spec
  range_grows number name spec at = record {
    wanted = at.wanted;
    there = rw extends.1 (there_still old extends.0 number at.wanted at.there);
    of_name = at.of_name;
    of_spec = at.of_spec;
  }

  demand_grows : (ask : Ask) (demand : Demand) → IsDemandOf names old ask demand → IsDemandOf names new ask demand
  demand_grows ask demand of = record {
    name = of.name;
    range = range_grows demand.range demand.name ask.spec.now of.range;
    needed = of.needed;
  }

  pub demands_grow : (asks : List Ask) (demands : List Demand) → AreDemandsOf names old asks demands
      → AreDemandsOf names new asks demands
  demands_grow = zip_weaker (IsDemandOf names old) (IsDemandOf names new) demand_grows

  pub candidates_grow : (askers : List Asker) (candidates : List Candidate) → AreCandidatesOf names old askers candidates
      → AreCandidatesOf names new askers candidates
  candidates_grow = zip_weaker (IsCandidateOf names old) (IsCandidateOf names new)
      (λ asker candidate. demands_grow asker.asks.items candidate.demands.items)

  pub packages_grow : (listed : List Listed) (packages : List Package) → ArePackagesOf names old listed packages
      → ArePackagesOf names new listed packages
  packages_grow = zip_weaker (IsPackageOf names old) (IsPackageOf names new)
      (λ one made. candidates_grow one.candidates.items made.candidates.items)

-- ---- one more

module _ {X Y : Type 0} (R : X → Y → Type 0) (xs : List X) (ys : List Y) (i : ℕ) where
  pub one_more : (d : X) (y : Y) → i < length xs → AllZip R (take i xs) ys → R (get_or xs i d) y
      → AllZip R (take (i + 1) xs) (ys ++ y ∷ [])
  one_more d y inside all one = rw (add-one, take_push xs i d inside) (zip_push R (take i xs) ys (get_or xs i d) y all one)
