-- Sets that C passes: they are one list of sets at most, and a loop that reads them keeps that list.
use Rattle.std.proofs.Common.{◌≡◌, ◌↔◌, zero, suc, ◌+◌, ◌<◌, ◌∙◌, ℕ, List, [], ◌∷◌, ◌++◌, Option, Some, None, length}
use Rattle.std.proofs.Common.{get_or}
use Rattle.std.proofs.Common.{take, refl, sym, ap, subst, inl, inr, arith}
use Rattle.std.proofs.lemmas.List.{take_more}
use Rattle.std.specs.Prelude.{IfSome, IsSome, MatchOption}
use Rattle.std.specs.List.{AllByRecursion}
use Rattle.node_semver_c.specs.Answers.{IsFound}
use Rattle.node_semver_c.specs.Sets.{AreNoRange, AreSetsGiven, IsCutGiven, IsNoSet, IsRangeOf, IsRangeWith, IsSetGiven}
use Rattle.node_semver_c.specs.declared.handle.set.CutRef.{CutRef}
use Rattle.node_semver_c.specs.declared.handle.set.SetRef.{SetRef}
use Rattle.semver_cuts.specs.declared.cut.Cut.{Cut}
use Rattle.semver_cuts.specs.declared.cut.Cut.TheVariants.{Start, Before, After, End}
use Rattle.semver_cuts.specs.Ends.{Ends, HoldsCut, span_between}
use Rattle.semver_texts.specs.Comparison.{version_cmp}
use Rattle.semver_sets.specs.RangeSets.{IsRangeSet, IsRangeValue}
use Rattle.semver_texts.specs.Version.{VersionValue}

some-same : {T : Type 0} (x y : T) → Some x ≡ Some y → x ≡ y
some-same x y e = cc e

-- a cut that is given is one cut
pub cut-same : (given : CutRef) (one other : Cut VersionValue) → IsCutGiven given one → IsCutGiven given other
    → one ≡ other
cut-same given Start Start e f = refl
cut-same given Start (Before w) e f = absurd (omega (arith, e, f.0))
cut-same given Start (After w) e f = absurd (omega (arith, e, f.0))
cut-same given Start End e f = absurd (omega (arith, e, f))
cut-same given (Before v) Start e f = absurd (omega (arith, e.0, f))
cut-same given (Before v) (Before w) e f = ap (λ (x : VersionValue). Before x) (some-same v w (sym e.1 ∙ f.1))
cut-same given (Before v) (After w) e f = absurd (omega (arith, e.0, f.0))
cut-same given (Before v) End e f = absurd (omega (arith, e.0, f))
cut-same given (After v) Start e f = absurd (omega (arith, e.0, f))
cut-same given (After v) (Before w) e f = absurd (omega (arith, e.0, f.0))
cut-same given (After v) (After w) e f = ap (λ (x : VersionValue). After x) (some-same v w (sym e.1 ∙ f.1))
cut-same given (After v) End e f = absurd (omega (arith, e.0, f))
cut-same given End Start e f = absurd (omega (arith, e, f))
cut-same given End (Before w) e f = absurd (omega (arith, e, f.0))
cut-same given End (After w) e f = absurd (omega (arith, e, f.0))
cut-same given End End e f = refl

-- a set that is given is one set
pub set-same : (given : SetRef) (one other : Ends VersionValue) → IsSetGiven given one → IsSetGiven given other
    → one ≡ other
set-same given one other a b =
    ap (λ (lower : Cut VersionValue). span_between lower one.upper)
    (cut-same given.lower one.lower other.lower a.0 b.0)
    ∙ ap (λ (upper : Cut VersionValue). span_between other.lower upper)
    (cut-same given.upper one.upper other.upper a.1 b.1)

-- sets that are given are one list
pub sets-same : (given : List SetRef) (one other : List (Ends VersionValue)) → AreSetsGiven given one
    → AreSetsGiven given other → one ≡ other
sets-same [] [] [] a b = refl
sets-same [] [] (other ∷ others) a b = absurd b
sets-same [] (one ∷ ones) other a b = absurd a
sets-same (first ∷ given) [] other a b = absurd a
sets-same (first ∷ given) (one ∷ ones) [] a b = absurd b
sets-same (first ∷ given) (one ∷ ones) (other ∷ others) a b =
    ap (λ (set : Ends VersionValue). set ∷ ones) (set-same first one other a.0 b.0)
    ∙ ap (λ (sets : List (Ends VersionValue)). other ∷ sets) (sets-same given ones others a.1 b.1)

-- the span between two cuts that are given, if they have one
pub span-given : (given : SetRef) (lower upper : Cut VersionValue) (span : Option (Ends VersionValue))
    → IsCutGiven given.lower lower → IsCutGiven given.upper upper
    → IsSome span ↔ HoldsCut version_cmp (span_between lower upper)
    → IfSome span (λ ends. ends ≡ span_between lower upper)
    → MatchOption span (IsNoSet given) (λ ends. IsSetGiven given ends)
span-given given lower upper None low high some ends =
    λ set is holds. cc (some.1 (subst (HoldsCut version_cmp)
    (set-same given set (span_between lower upper) is (low, high)) holds))
span-given given lower upper (Some span) low high some ends =
    subst (IsSetGiven given) (sym ends) (low, high)

given-append : (given more : List SetRef) (sets others : List (Ends VersionValue)) → AreSetsGiven given sets
    → AreSetsGiven more others → AreSetsGiven (given ++ more) (sets ++ others)
given-append [] more [] others a b = b
given-append [] more (set ∷ sets) others a b = absurd a
given-append (first ∷ given) more [] others a b = absurd a
given-append (first ∷ given) more (set ∷ sets) others a b = (a.0, given-append given more sets others a.1 b)

-- as a loop goes over them
pub given-more : (given : List SetRef) (k : ℕ) (first : SetRef) (sets : List (Ends VersionValue))
    (set : Ends VersionValue) → k < length given → first ≡ get_or given k first → AreSetsGiven (take k given) sets
    → IsSetGiven first set → AreSetsGiven (take (k + 1) given) (sets ++ set ∷ [])
given-more given k first sets set lt at before is =
    subst (λ (l : List SetRef). AreSetsGiven l (sets ++ set ∷ []))
    (sym (take_more given k first lt ∙ ap (λ (g : SetRef). take k given ++ g ∷ []) (sym at)))
    (given-append (take k given) (first ∷ []) sets (set ∷ []) before (is, tt))

given-at : (given : List SetRef) (k : ℕ) (first : SetRef) (sets : List (Ends VersionValue)) → k < length given
    → AreSetsGiven given sets → AllByRecursion IsRangeSet sets
    → (set : Ends VersionValue) × IsSetGiven (get_or given k first) set × IsRangeSet set
given-at [] k first sets lt a each = absurd (omega (arith, lt))
given-at (g ∷ given) k first [] lt a each = absurd a
given-at (g ∷ given) zero first (set ∷ sets) lt a each = (set, a.0, each.0)
given-at (g ∷ given) (suc k) first (set ∷ sets) lt a each =
    given-at given k first sets (omega (arith, lt)) a.1 each.1

-- where one of them is no set, no range has them
pub none-given : (given : List SetRef) (k : ℕ) (first : SetRef) → k < length given → first ≡ get_or given k first
    → IsNoSet first → AreNoRange given
none-given given k first lt at never sets a is =
    let held = given-at given k first sets lt a is.each in
    never held.0 (subst (λ (g : SetRef). IsSetGiven g held.0) (sym at) held.1) held.2.holds

-- a range of the sets is a range of the references to them
pub range-of : (given : List SetRef) (sets : List (Ends VersionValue)) (answer : Option (List (Ends VersionValue)))
    → AreSetsGiven given sets → IsRangeWith sets answer → IsRangeOf given answer
range-of given sets None a is = record {
  sets = tt;
  holds = tt;
  none = (
    λ none others b. subst (λ (l : List (Ends VersionValue)). ¬ IsRangeValue l) (sets-same given sets others a b)
        (is.none.0 none),
    λ never. refl,
  );
}
range-of given sets (Some range) a is = record {
  sets = subst (AreSetsGiven given) (sym is.sets) a;
  holds = subst IsRangeValue (sym is.sets) (is.some.0 refl);
  none = (λ none. cc none, λ never. absurd (never sets a (is.some.0 refl)));
}

pub found-of-given : (given : List SetRef) (sets : List (Ends VersionValue)) (status : ℕ)
    (held : Option (List (Ends VersionValue))) → AreSetsGiven given sets → IsFound (IsRangeWith sets) status held
    → IsFound (IsRangeOf given) status held
found-of-given given sets status held a (inl found) = inl (range-of given sets held a found.0, found.1)
found-of-given given sets status held a (inr failed) = inr failed
