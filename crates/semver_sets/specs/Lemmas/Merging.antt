-- Comparators merged into one set.
use native.Mathlib.Omega.{arith}
use Rattle.std.proofs.Common.{◌≡◌, ◌↔◌, List, [], ◌∷◌, ◌++◌, refl, sym, subst, inl}
use Rattle.std.proofs.Common.{inr}
use Rattle.std.specs.List.{AllByRecursion}
use Rattle.std.proofs.lemmas.List.{append-nil, append_assoc}
use Rattle.semver_cuts.specs.declared.cut.Cut.{Cut}
use Rattle.semver_cuts.specs.declared.cut.Cut.TheVariants.{Before}
use Rattle.semver_cuts.specs.Ends.{Ends, HoldsCut, IsCutAtMost, span_between}
use Rattle.semver_cuts.specs.KeptEnds.{IsEarlierLeast, IsLaterGreatest}
use Rattle.semver_cuts.specs.Lemmas.Ends.{at_most-or-below}
use Rattle.semver_cuts.specs.Lemmas.ChosenEnds.{chosen_lower-above, chosen_lower-one, chosen_lower-push}
use Rattle.semver_cuts.specs.Lemmas.ChosenEnds.{chosen_lower-some, chosen_lower-unique, chosen_upper-below}
use Rattle.semver_cuts.specs.Lemmas.ChosenEnds.{chosen_upper-one, chosen_upper-push, chosen_upper-unique, common-holds}
use Rattle.semver_cuts.specs.Lemmas.ChosenEnds.{in_every-between}
use Rattle.semver_sets.specs.Comparator.{Comparator}
use Rattle.semver_texts.specs.Comparison.{version_cmp}
use Rattle.semver_sets.specs.Meaning.{AnyByRecursion, GiveSet, HasOpenEnd, IsInside, Opens}
use Rattle.semver_sets.specs.Merging.{AdmitsTheSame, AreSetsOf, HasOneSet, IsSetOf, LosesNothing, no_more, none}
use Rattle.semver_sets.specs.Merging.{one_more}
use Rattle.semver_texts.specs.Version.{IsPrerelease, VersionValue}
use Rattle.semver_texts.specs.Lemmas.Public.{version_total}
use Rattle.semver_sets.specs.Lemmas.Convex.{convex-lower, convex-upper}

-- ---- one comparator more

-- a comparator alone is its own set
pub set-one : (c : Comparator) → IsSetOf (c ∷ []) c
set-one c = record { lower = chosen_lower-one version_total c; upper = chosen_upper-one version_total c }

-- the set of comparators and one that follows them
pub set-push : (comparators : List Comparator) (earlier later merged : Comparator) → IsSetOf comparators earlier
    → IsLaterGreatest version_cmp earlier.lower later.lower merged.lower
    → IsEarlierLeast version_cmp earlier.upper later.upper merged.upper → IsSetOf (comparators ++ later ∷ []) merged
set-push comparators earlier later merged is lower upper = grind
    (arith, chosen_lower-push, version_total, chosen_upper-push)

-- ---- one set

-- comparators have no two sets
pub set-unique : (comparators : List Comparator) (one other : Ends VersionValue) → IsSetOf comparators one
    → IsSetOf comparators other → one ≡ other
set-unique comparators one other is is' = grind (
  arith,
  chosen_lower-unique version_total comparators one.lower
      other.lower is.lower is'.lower,
  chosen_upper-unique version_total comparators one.upper other.upper is.upper
      is'.upper,
)

-- ---- the cuts of the set

-- comparators give their set where it holds a cut
pub merged-gives : (comparators : List Comparator) (set : Ends VersionValue) → IsSetOf comparators set
    → GiveSet comparators ↔ HoldsCut version_cmp set
merged-gives comparators set is = grind (
  arith,
  common-holds version_total comparators set.lower set.upper is.lower
      is.upper,
  chosen_lower-some version_total comparators set.lower is.lower,
)

-- ---- what the set admits

-- some element, in the middle of a list
any-middle : {X : Type 0} (P : X → Type 0) (before after : List X) (x : X) → P x
    → AnyByRecursion P (before ++ x ∷ after)
any-middle P [] after x p = inl p
any-middle P (y ∷ before) after x p = inr (any-middle P before after x p)

-- some element is so, and this with what all are gives one thing
any-with-all : {X Y : Type 0} (P Q : X → Type 0) → ((x : X) → P x → Q x → Y) → (xs : List X) → AnyByRecursion P xs
    → AllByRecursion Q xs → Y
any-with-all P Q f [] a b = absurd a
any-with-all P Q f (x ∷ xs) (inl p) b = f x p b.0
any-with-all P Q f (x ∷ xs) (inr a) b = any-with-all P Q f xs a b.1

-- two facts of each element
both-all : {X : Type 0} (P Q : X → Type 0) (xs : List X) → AllByRecursion P xs → AllByRecursion Q xs
    → AllByRecursion (λ x. P x × Q x) xs
both-all P Q [] a b = tt
both-all P Q (x ∷ xs) a b = ((a.0, b.0), both-all P Q xs a.1 b.1)

module _ (comparators : List Comparator) (set : Ends VersionValue) (is : IsSetOf comparators set)
    (v : VersionValue) where
  -- a version lies inside all comparators exactly if it lies inside their set
  pub inside-set : AllByRecursion (IsInside v) comparators ↔ IsInside v set
  inside-set = in_every-between version_total comparators set.lower set.upper is.lower is.upper (Before v)

  -- an end that opens the triple has the set's end between it and the version
  opened-by-set : IsPrerelease v → AllByRecursion (IsInside v) comparators → AnyByRecursion (HasOpenEnd v) comparators
      → HasOpenEnd v set
  opened-by-set pre all some =
      let Begins : Comparator → Type 0 = λ c. IsCutAtMost version_cmp c.lower set.lower in
      let GoesOn : Comparator → Type 0 = λ c. IsCutAtMost version_cmp set.upper c.upper in
      let inside = inside-set.0 all in
      any-with-all (HasOpenEnd v) (λ c. Begins c × GoesOn c)
      (λ c opened outer. elim opened [
        | inl lower ↦ inl (convex-lower v c.lower set.lower pre lower outer.0 inside.lower)
        | inr upper ↦ inr (convex-upper v c.upper set.upper upper inside.upper outer.1)
      ]) comparators some
      (both-all Begins GoesOn comparators (chosen_lower-above version_total comparators set.lower is.lower)
      (chosen_upper-below version_total comparators set.upper is.upper))

  -- an end of the set is an end of one of the comparators
  opened-by-one : HasOpenEnd v set → AnyByRecursion (HasOpenEnd v) comparators
  opened-by-one (inl lower) =
      let l = is.lower in
      subst (AnyByRecursion (HasOpenEnd v)) (sym l.parts)
      (any-middle (HasOpenEnd v) l.before l.after l.span (inl (subst (λ c. Opens c v) (sym l.end_of) lower)))
  opened-by-one (inr upper) =
      let u = is.upper in
      subst (AnyByRecursion (HasOpenEnd v)) (sym u.parts)
      (any-middle (HasOpenEnd v) u.before u.after u.span (inr (subst (λ c. Opens c v) (sym u.end_of) upper)))

  -- merging loses no end that opens the triple of a prerelease inside
  pub loses-nothing : LosesNothing comparators set v
  loses-nothing pre all = (opened-by-set pre all, opened-by-one)

  -- the set admits what its comparators do
  pub merged-admits : AdmitsTheSame comparators set v
  merged-admits = grind (arith, inside-set, opened-by-set, opened-by-one)

-- ---- comparators have a set

-- the greater of two lower ends
kept-lower : (earlier later : Cut VersionValue)
    → (kept : Cut VersionValue) × IsLaterGreatest version_cmp earlier later kept
kept-lower earlier later = elim (at_most-or-below version_total earlier later) [
  | inl h ↦ (later, inr (h, refl))
  | inr h ↦ (earlier, inl (h, refl))
]

-- the lesser of two upper ends
kept-upper : (earlier later : Cut VersionValue)
    → (kept : Cut VersionValue) × IsEarlierLeast version_cmp earlier later kept
kept-upper earlier later = elim (at_most-or-below version_total earlier later) [
  | inl h ↦ (earlier, inr (h, refl))
  | inr h ↦ (later, inl (h, refl))
]

-- comparators that have one, and more after them
set-of-more : (comparators more : List Comparator) (set : Ends VersionValue) → IsSetOf comparators set
    → (merged : Ends VersionValue) × IsSetOf (comparators ++ more) merged
set-of-more comparators [] set is = (set, subst (λ l. IsSetOf l set) (sym (append-nil comparators)) is)
set-of-more comparators (c ∷ more) set is =
    let lower = kept-lower set.lower c.lower in
    let upper = kept-upper set.upper c.upper in
    let merged = span_between lower.0 upper.0 in
    let all = set-of-more (comparators ++ c ∷ []) more merged (set-push comparators set c merged is lower.1 upper.1) in
    (all.0, subst (λ l. IsSetOf l all.0) (append_assoc comparators (c ∷ []) more) all.1)

-- comparators have one set
pub one-set : (comparators : List Comparator) → HasOneSet comparators
one-set [] some = absurd (some refl)
one-set (c ∷ comparators) some =
    let all = set-of-more (c ∷ []) comparators c (set-one c) in
    (all.0, all.1, λ other is. set-unique (c ∷ comparators) other all.0 is all.1)

-- ---- one alternative after another

-- one more alternative that gives a set
pub more-set : (done : List (List Comparator)) (sets : List (Ends VersionValue)) (a : List Comparator)
    (set : Ends VersionValue)
    → AreSetsOf done sets → GiveSet a → IsSetOf a set → AreSetsOf (done ++ a ∷ []) (sets ++ set ∷ [])
more-set [] [] a set none gives is = one_more a [] set [] gives is none
more-set [] (s ∷ sets) a set m gives is = elim m [ ]
more-set (c ∷ done) (s ∷ sets) a set (one_more _ _ _ _ g i more) gives is =
    one_more c (done ++ a ∷ []) s (sets ++ set ∷ []) g i (more-set done sets a set more gives is)
more-set (c ∷ done) sets a set (no_more _ _ _ n more) gives is =
    no_more c (done ++ a ∷ []) (sets ++ set ∷ []) n (more-set done sets a set more gives is)

-- one more alternative that gives none
pub more-none : (done : List (List Comparator)) (sets : List (Ends VersionValue)) (a : List Comparator)
    → AreSetsOf done sets → ¬ GiveSet a → AreSetsOf (done ++ a ∷ []) sets
more-none [] [] a none nothing = no_more a [] [] nothing none
more-none [] (s ∷ sets) a m nothing = elim m [ ]
more-none (c ∷ done) (s ∷ sets) a (one_more _ _ _ _ g i more) nothing =
    one_more c (done ++ a ∷ []) s sets g i (more-none done sets a more nothing)
more-none (c ∷ done) sets a (no_more _ _ _ n more) nothing =
    no_more c (done ++ a ∷ []) sets n (more-none done sets a more nothing)
