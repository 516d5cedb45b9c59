-- The least version that a list of sets admits, from that of each set.
use Rattle.std.proofs.lemmas.Grind.{common_steps}
use Rattle.std.proofs.Common.{◌≡◌, ◌↔◌, ◌⊎◌, ◌+◌, ◌<◌, ◌≤◌, ◌∙◌, ℕ, Bool, true, false, arith, IfOk, IfSome, IsNone}
use Rattle.std.proofs.Common.{List, []}
use Rattle.std.proofs.Common.{◌∷◌, ◌++◌, Option, Some, None, length, get_or, take, refl, sym, subst, inl, inr, Less}
use Rattle.std.proofs.Common.{append_assoc}
use Rattle.std.proofs.lemmas.List.{take_more}
use Rattle.std.specs.Cmp.{alike_right}
use Rattle.std.specs.List.{AllByRecursion}
use Rattle.std.specs.Prelude.{Result}
use Rattle.semver_cuts.specs.declared.cut.Cut.TheVariants.{Before}
use Rattle.semver_cuts.specs.Ends.{Ends}
use Rattle.semver_texts.specs.Comparison.{version_cmp}
use Rattle.semver_sets.specs.RangeSets.{IsRangeSet}
use Rattle.semver_texts.specs.Version.{VersionValue}
use Rattle.semver_texts.specs.Lemmas.Public.{Less-version, version-Less, version_total}
use Rattle.node_semver.specs.Least.{HasBuildOf, IsLeastOf, IsNoneOf}
use Rattle.node_semver.specs.Private.LeastViews.{IsIn, IsInRange, IsLeastInSet, IsLeastOfSet, IsLeastOfSets, IsLesser}
use Rattle.node_semver.proofs.Least.LeastLemmas.{at-least, before-least}

-- ---- one set more

-- earlier sets admit what they did
admits-earlier : (included : Bool) (done : List (Ends VersionValue)) (set : Ends VersionValue) (v : VersionValue) →
    IsInRange included done v
    → IsInRange included (done ++ set ∷ []) v
admits-earlier included [] set v admits = absurd admits
admits-earlier included (s ∷ done) set v (inl here) = inl here
admits-earlier included (s ∷ done) set v (inr there) = inr (admits-earlier included done set v there)

-- and the set what it does
admits-last : (included : Bool) (done : List (Ends VersionValue)) (set : Ends VersionValue) (v : VersionValue) → IsIn
    included set v
    → IsInRange included (done ++ set ∷ []) v
admits-last included [] set v admits = inl admits
admits-last included (s ∷ done) set v admits = inr (admits-last included done set v admits)

-- and nothing else is admitted
admits-either : (included : Bool) (done : List (Ends VersionValue)) (set : Ends VersionValue) (v : VersionValue)
    → IsInRange included (done ++ set ∷ []) v → IsInRange included done v ⊎ IsIn included set v
admits-either included [] set v (inl here) = inr here
admits-either included [] set v (inr there) = absurd there
admits-either included (s ∷ done) set v (inl here) = inl (inl here)
admits-either included (s ∷ done) set v (inr there) = grind (arith, admits-either included done set v there)

none-each : (included : Bool) (done : List (Ends VersionValue)) (v : VersionValue) → ¬ IsInRange included done v
    → AllByRecursion (λ (other : Ends VersionValue). ¬ IsIn included other v) done
none-each included [] v none = tt
none-each included (s ∷ done) v none = (λ here. none (inl here), none-each included done v (λ there. none (inr there)))

-- the least version of the set, where the earlier ones don't admit it
last-first : (included : Bool) (done : List (Ends VersionValue)) (set : Ends VersionValue) (v : VersionValue) →
    IsLeastInSet included set v
    → ¬ IsInRange included done v → HasBuildOf (IsIn included) (done ++ set ∷ []) v
last-first included done set v least none = grind (arith, none-each)

-- the first to admit stays the first
earlier-first : (included : Bool) (done : List (Ends VersionValue)) (set : Ends VersionValue) (v : VersionValue) →
    HasBuildOf (IsIn included) done v
    → HasBuildOf (IsIn included) (done ++ set ∷ []) v
earlier-first included done set v built = grind (arith, append_assoc)

-- ---- the lesser of two

-- the least of the set alone, below all that the earlier sets admit
take-later : (included : Bool) (done : List (Ends VersionValue)) (set : Ends VersionValue) (v : VersionValue) →
    IsLeastInSet included set v
    → ((w : VersionValue) → IsInRange included done w → ¬ (version_cmp w v ≡ Less)) → ¬ IsInRange included done v
    → IsLeastOf (IsInRange included (done ++ set ∷ [])) v × HasBuildOf (IsIn included) (done ++ set ∷ []) v
take-later included done set v least above none = (
  record {
    wanted = admits-last included done set v least.admits;
    none_below = λ w admits below. elim (admits-either included done set w admits) [
      | inl earlier ↦ above w earlier (version-Less w v below)
      | inr last ↦ least.none_below w last (version-Less w v below)
    ];
  },
  last-first included done set v least none,
)

-- the least of the earlier ones, where the set admits none below it
take-earlier : (included : Bool) (done : List (Ends VersionValue)) (set : Ends VersionValue) (v : VersionValue) →
    IsLeastOf (IsInRange included done) v
    → HasBuildOf (IsIn included) done v → ((w : VersionValue) → IsIn included set w → ¬ (version_cmp w v ≡ Less))
    → IsLeastOf (IsInRange included (done ++ set ∷ [])) v × HasBuildOf (IsIn included) (done ++ set ∷ []) v
take-earlier included done set v least built above = (
  record {
    wanted = admits-earlier included done set v least.wanted;
    none_below = λ w admits below. elim (admits-either included done set w admits) [
      | inl earlier ↦ least.none_below w earlier below
      | inr last ↦ above w last (version-Less w v below)
    ];
  },
  earlier-first included done set v built,
)

-- if u is not below v and v is not below w, then u is not below w
pub not-below : (u v w : VersionValue) → ¬ (version_cmp v w ≡ Less) → ¬ (version_cmp u v ≡ Less)
    → ¬ (version_cmp u w ≡ Less)
not-below u v w n m less = elim (at-least w v n) [
  | inl above ↦ m (version_total.trans u w v less above)
  | inr same ↦ m (sym (alike_right version_total w v u same) ∙ less)
]

-- one set more: the lesser of the two least versions
pub more-least : (included : Bool) (done : List (Ends VersionValue)) (set : Ends VersionValue)
    (earlier later found : Option VersionValue)
    → IsLeastOfSets included done earlier → IsLeastOfSet included set later → IsLesser earlier later found
    → IsLeastOfSets included (done ++ set ∷ []) found
more-least included done set None None found none nothing is =
    subst (IsLeastOfSets included (done ++ set ∷ [])) (sym is)
    (λ v admits. elim (admits-either included done set v admits) [
      | inl earlier ↦ none v earlier
      | inr last ↦ nothing v last
    ])
more-least included done set None (Some l) found none least is = grind (arith, take-later)
more-least included done set (Some e) None found least nothing is = grind (arith, take-earlier)
more-least included done set (Some e) (Some l) found least later (inl (below, is)) =
    subst (IsLeastOfSets included (done ++ set ∷ [])) (sym is) (take-later included done set l later
    (λ w admits less. least.0.none_below w admits (Less-version w e (version_total.trans w l e less below)))
    (λ admits. least.0.none_below l admits (Less-version l e below)))
more-least included done set (Some e) (Some l) found least later (inr (above, is)) =
    subst (IsLeastOfSets included (done ++ set ∷ [])) (sym is) (take-earlier included done set e least.0 least.1
    (λ w admits. not-below w l e above (later.none_below w admits)))

-- as a loop goes over the sets
pub taken-least : (included : Bool) (sets : List (Ends VersionValue)) (k : ℕ) (set : Ends VersionValue)
    (earlier later found : Option VersionValue)
    → k < length sets → set ≡ get_or sets k set → IsLeastOfSets included (take k sets) earlier → IsLeastOfSet included
    set later
    → IsLesser earlier later found → IsLeastOfSets included (take (k + 1) sets) found
taken-least included sets k set earlier later found lt is least later_least lesser = grind
    (arith, take_more sets k set lt, more-least included (take k sets) set earlier later found least later_least lesser)

-- ---- the only set

one-set : (sets : List (Ends VersionValue)) (set : Ends VersionValue) → 1 ≤ length sets → length sets < 2
    → set ≡ get_or sets 0 set → sets ≡ set ∷ []
one-set sets set h1 h2 h3 = grind (arith, common_steps)

-- where it begins before a version, that is the least
pub only-least : (included : Bool) (sets : List (Ends VersionValue)) (set : Ends VersionValue) (v : VersionValue) → 1 ≤
    length sets
    → length sets < 2 → set ≡ get_or sets 0 set → set.lower ≡ Before v → AllByRecursion IsRangeSet sets
    → IsLeastOfSets included sets (Some v)
only-least included sets set v some few is lower each =
    let only = one-set sets set some few is in
    let held : AllByRecursion IsRangeSet (set ∷ []) = subst (AllByRecursion IsRangeSet) only each in
    subst (λ (l : List (Ends VersionValue)). IsLeastOfSets included l (Some v)) (sym only)
    (more-least included [] set None (Some v) (Some v) (λ w admits. admits)
    (before-least included set v held.0.holds lower) refl)

-- ---- the program's result

-- a version, where one is admitted
pub some-found : (included : Bool) (sets : List (Ends VersionValue)) (v : VersionValue) → IsLeastOfSets included sets
    (Some v)
    → (true ≡ false) ↔ IsNoneOf (IsInRange included sets)
some-found included sets v least = (λ e. cc e, λ none. absurd (none v least.0.wanted))

-- and none, where none is
pub none-found : {E : Type 0} (included : Bool) (sets : List (Ends VersionValue)) (r : Result (Option VersionValue) E)
    → IfOk r (IsLeastOfSets included sets) → IfOk r (λ found. IsNone found ↔ IsNoneOf (IsInRange included sets))
none-found included sets r h1 = grind (arith, some-found)

-- a version that is found is the least, with the build of the first set that has it
pub found-least : {E : Type 0} (included : Bool) (sets : List (Ends VersionValue)) (r : Result (Option VersionValue) E)
    → IfOk r (IsLeastOfSets included sets) → IfOk r (λ found. IfSome found (IsLeastOf (IsInRange included sets)))
found-least included sets r h1 = grind arith

pub found-build : {E : Type 0} (included : Bool) (sets : List (Ends VersionValue)) (r : Result (Option VersionValue) E)
    → IfOk r (IsLeastOfSets included sets) → IfOk r (λ found. IfSome found (HasBuildOf (IsIn included) sets))
found-build included sets r h1 = grind arith
