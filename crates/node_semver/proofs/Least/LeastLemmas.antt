-- The least version that a set admits: where the set begins, and which triples its ends open.
use native.Mathlib.Omega.{arith}
use Rattle.std.proofs.Common.{◌≡◌, ◌↔◌, ◌⊎◌, ◌+◌, ℕ, List, [], ◌∷◌, ◌++◌, Bool, true, false, not, Option, IsTrue}
use Rattle.std.proofs.Common.{refl, sym, ap, subst, inl, inr, Ordering, Less, Equal, Greater}
use Rattle.std.specs.Ordering.{ordering_then}
use Rattle.std.specs.Cmp.{alike_right, tied_back, tied_itself}
use Rattle.semver_cuts.specs.declared.cut.Cut.{Cut}
use Rattle.semver_cuts.specs.declared.cut.Cut.TheVariants.{Start, Before, After, End}
use Rattle.semver_cuts.specs.Ends.{Ends, HoldsCut, IsCutAtMost, IsCutBelow}
use Rattle.semver_cuts.specs.Lemmas.Ends.{at_most-below, at_most_trans}
use Rattle.semver_texts.specs.Comparison.{version_cmp}
use Rattle.semver_texts.specs.IdentifierValue.{IdentifierValue, numeric}
use Rattle.semver_sets.specs.Meaning.{IsInside, Opens}
use Rattle.semver_texts.specs.Order.{IsBelow}
use Rattle.semver_texts.specs.Version.{HasSameTriple, IsPrerelease, VersionValue, least_of, release}
use Rattle.semver_texts.specs.Lemmas.Public.{Greater-turned, Less-version, none-below_first}
use Rattle.semver_versions.specs.Lemmas.Public.{none-between_patches}
use Rattle.semver_versions.specs.Lemmas.Public.{none-between_zeros, patch-above, prerelease-from_below}
use Rattle.semver_texts.specs.Lemmas.Public.{triple-back}
use Rattle.semver_texts.specs.Lemmas.Public.{triple-between, version-Equal, version-Less, version_total}
use Rattle.semver_versions.specs.Lemmas.Public.{with_zero-above}
use Rattle.semver_sets.specs.Lemmas.Convex.{from-cmp}
use Rattle.node_semver.specs.Least.{build_at}
use Rattle.semver_versions.specs.VersionSteps.{with_zero}
use Rattle.node_semver.proofs.Least.OpenTriples.{open_end-in_triple}
use Rattle.node_semver.specs.Private.LeastViews.{IsIn, IsInsideOrNone, IsLeastInSet, IsLeastOfSet, IsLeastOfTriple}
use Rattle.node_semver.specs.Private.LeastViews.{IsOpenIn}

-- ---- versions and ends

not-so : (below : Bool) → ¬ IsTrue below → IsTrue (not below)
not-so below h1 = grind arith

so-not : (below : Bool) → IsTrue (not below) → ¬ IsTrue below
so-not below h1 = grind arith

-- not below is at least
pub at-least : (v w : VersionValue) → ¬ (version_cmp w v ≡ Less) → IsCutAtMost version_cmp (Before v) (Before w)
at-least v w n = grind (arith, Greater-turned version_total v w)

-- a version is inside an end after another where the other is not below it
pub inside-after : (v w : VersionValue) (upper : Cut VersionValue) (below : Bool) → upper ≡ After w
    → IsTrue below ↔ (version_cmp w v ≡ Less) → IsTrue (not below) ↔ IsCutBelow version_cmp (Before v) upper
inside-after v w upper below is test = (
  λ h. subst (λ (c : Cut VersionValue). IsCutBelow version_cmp (Before v) c) (sym is)
      (forward (at-least v w (λ less. so-not below h (test.1 less)))),
  λ inside. not-so below (λ yes. backward (test.0 yes)
      (subst (λ (c : Cut VersionValue). IsCutBelow version_cmp (Before v) c) is inside)),
)
  where
    forward : (version_cmp v w ≡ Less) ⊎ (version_cmp v w ≡ Equal) → ordering_then (version_cmp v w) Less ≡ Less
    forward (inl e) = ap (λ r. ordering_then r Less) e
    forward (inr e) = ap (λ r. ordering_then r Less) e

    backward : version_cmp w v ≡ Less → ¬ (ordering_then (version_cmp v w) Less ≡ Less)
    backward less e =
        let greater : ordering_then (version_cmp v w) Less ≡ Greater =
        ap (λ r. ordering_then r Less) ((Greater-turned version_total v w).1 less) in
        cc (e, greater)

-- ---- where a cut begins

-- the cut is at most the one before the version, and of no version below it
pub record IsFloor (cut : Cut VersionValue) (floor : VersionValue) : Type 0 where
  pub at : IsCutAtMost version_cmp cut (Before floor)
  pub none_below : (v : VersionValue) → IsCutAtMost version_cmp cut (Before v) → ¬ (version_cmp v floor ≡ Less)

-- whatever its build is
pub same-floor : (cut : Cut VersionValue) (v w : VersionValue) → version_cmp v w ≡ Equal → IsFloor cut v → IsFloor cut w
same-floor cut v w e floor = grind (arith, at_most_trans, version_total, alike_right)

pub start-floor : IsFloor Start (least_of 0 0 0)
start-floor = record {
  at = inl refl;
  none_below = λ v _ less. none-below_first v (Less-version v (least_of 0 0 0) less);
}

pub before-floor : (v : VersionValue) → IsFloor (Before v) v
before-floor v = grind (arith, tied_itself, version_total, Greater-turned, tied_back)

-- of the next version after this one
pub after-floor : (v next : VersionValue) → IsBelow v next → ((w : VersionValue) → IsBelow v w → ¬ IsBelow w next)
    → IsFloor (After v) next
after-floor v next above between = record {
  at = inl (ap (λ r. ordering_then r Greater) (version-Less v next above));
  none_below = λ w h less. between w (Less-version v w (later (version_cmp v w) h)) (Less-version w next less);
}
  where
    later : (r : Ordering) → (ordering_then r Greater ≡ Less) ⊎ (ordering_then r Greater ≡ Equal) → r ≡ Less
    later Less h = refl
    later Equal (inl h) = cc h
    later Equal (inr h) = cc h
    later Greater (inl h) = cc h
    later Greater (inr h) = cc h

-- ---- a version in a set, prereleases included or not

pub lies-inside : (included : Bool) (set : Ends VersionValue) (v : VersionValue) → IsIn included set v → IsInside v set
lies-inside true set v inside = inside
lies-inside false set v admits = admits.inside

pub is-opened : (included : Bool) (set : Ends VersionValue) (v : VersionValue) → IsIn included set v → IsPrerelease v
    → IsOpenIn included set v
is-opened true set v inside pre = inl refl
is-opened false set v admits pre = inr (admits.opened pre)

pub lies-in : (included : Bool) (set : Ends VersionValue) (v : VersionValue) → IsInside v set
    → (IsPrerelease v → IsOpenIn included set v) → IsIn included set v
lies-in true set v inside opened = inside
lies-in false set v inside opened = grind arith

-- for each version of a triple
pub open_in-triple : (included : Bool) (set : Ends VersionValue) (v w : VersionValue) → HasSameTriple v w
    → IsOpenIn included set v → IsOpenIn included set w
open_in-triple included set v w h1 h2 = grind (arith, open_end-in_triple)

-- ---- where a set begins

-- The version is not below the set's lower end, and none below it is admitted.
pub record IsBeginning (included : Bool) (set : Ends VersionValue) (first : VersionValue) : Type 0 where
  pub at : IsCutAtMost version_cmp set.lower (Before first)
  pub none_below : (v : VersionValue) → IsIn included set v → ¬ (version_cmp v first ≡ Less)

from-floor : (included : Bool) (set : Ends VersionValue) (v : VersionValue) → IsFloor set.lower v → IsBeginning included
    set v
from-floor included set v floor = grind (arith, lies-inside)

-- the least version of a triple that no end opens is not admitted, nor are the prereleases above it
from-closed : (included : Bool) (set : Ends VersionValue) (m n p : ℕ) (v : VersionValue) → IsFloor set.lower
    (least_of m n p)
    → HasSameTriple v (least_of m n p) → ¬ IsPrerelease v → ¬ IsOpenIn included set v → IsBeginning included set v
from-closed included set m n p v floor triple final closed =
    let least = least_of m n p in
    let back = triple-back v least triple in
    record {
      at = at_most_trans version_total set.lower (Before least) (Before v) floor.at
          (at-least least v (λ less. final (prerelease-from_below v least triple (Less-version v least less))));
      none_below = λ w is less.
          let t = triple-between least w v (from-cmp least w
          (at-least least w (floor.none_below w (lies-inside included set w is).lower)))
          (inl (Less-version w v less)) back in
          let pre = prerelease-from_below w v t (Less-version w v less) in
          closed (open_in-triple included set w v t (is-opened included set w is pre));
    }

-- ---- the least version of a set

-- a version at which the set begins, and which it admits if it is inside
pub record IsCandidate (included : Bool) (set : Ends VersionValue) (v : VersionValue) : Type 0 where
  pub begins : IsBeginning included set v
  pub opened : IsPrerelease v → IsOpenIn included set v
  pub build : v.build ≡ build_at set.lower

pub least-inside : (included : Bool) (set : Ends VersionValue) (v : VersionValue) → IsCandidate included set v
    → IsCutBelow version_cmp (Before v) set.upper → IsLeastInSet included set v
least-inside included set v candidate upper = grind (arith, lies-in)

-- it is the least one if it is inside, and otherwise there is none
pub candidate-least : (included : Bool) (set : Ends VersionValue) (v : VersionValue) (found : Option VersionValue) →
    IsCandidate included set v
    → IsInsideOrNone set.upper v found → IsLeastOfSet included set found
candidate-least included set v found candidate (inl (inside, is)) = grind (arith, least-inside)
candidate-least included set v found candidate (inr (outside, none)) = subst (IsLeastOfSet included set) (sym none)
    (λ w is.
    outside (at_most-below version_total (Before v) (Before w) set.upper
    (at-least v w (candidate.begins.none_below w is)) (lies-inside included set w is).upper))

-- before a version
pub before-least : (included : Bool) (set : Ends VersionValue) (v : VersionValue) → HoldsCut version_cmp set → set.lower
    ≡ Before v
    → IsLeastInSet included set v
before-least included set v holds is =
    let floor : IsFloor set.lower v = subst (λ (c : Cut VersionValue). IsFloor c v) (sym is) (before-floor v) in
    least-inside included set v (record {
      begins = from-floor included set v floor;
      opened = λ pre. inr (inl (subst (λ (c : Cut VersionValue). Opens c v) (sym is)
          (pre, record { major = refl; minor = refl; patch = refl })));
      build = ap build_at (sym is);
    }) (subst (λ (c : Cut VersionValue). IsCutBelow version_cmp c set.upper) is
    (at_most-below version_total set.lower holds.0 set.upper holds.1.lower holds.1.upper))

-- after a prerelease: itself with a 0 more, which the end opens
pub zero-candidate : (included : Bool) (set : Ends VersionValue) (v w : VersionValue) → set.lower ≡ After v →
    IsPrerelease v
    → w ≡ record v { pre_release = v.pre_release ++ numeric 0 ∷ [] } → IsCandidate included set w
zero-candidate included set v w is pre same =
    let zero : VersionValue = record v { pre_release = v.pre_release ++ numeric 0 ∷ [] } in
    let floor : IsFloor (After v) zero = same-floor (After v) (with_zero v) zero
    (version-Equal (with_zero v) zero (record {
      triple =
          record { major = refl; minor = refl; patch = refl };
      pre_release = refl;
    }))
    (after-floor v (with_zero v) (with_zero-above v pre) (λ w. none-between_zeros v w pre)) in
    subst (IsCandidate included set) (sym same) (record {
      begins = from-floor included set zero (subst (λ (c : Cut VersionValue). IsFloor c zero) (sym is) floor);
      opened = λ _. inr (inl (subst (λ (c : Cut VersionValue). Opens c zero) (sym is)
          (pre, record { major = refl; minor = refl; patch = refl })));
      build = ap build_at (sym is);
    })

-- a triple whose least version is the floor of a lower end that does not open it
triple-candidate : (included : Bool) (set : Ends VersionValue) (m n p : ℕ) (build : List IdentifierValue)
    (w : VersionValue)
    → IsFloor set.lower (least_of m n p) → ¬ Opens set.lower (release m n p) → build ≡ build_at set.lower
    → IsLeastOfTriple included set.upper m n p build w → IsCandidate included set w
triple-candidate included set m n p build w floor closed same (inl (opens, is)) =
    let least : VersionValue = record (least_of m n p) { build = build } in
    subst (IsCandidate included set) (sym is) (record {
      begins = from-floor included set least (same-floor set.lower (least_of m n p) least
          (version-Equal (least_of m n p) least
          (record { triple = record { major = refl; minor = refl; patch = refl }; pre_release = refl })) floor);
      opened = λ _. elim opens [ inl is ↦ inl is | inr opened ↦ inr (inr (as_release set.upper opened)) ];
      build = same;
    })
  where
    as_release : (c : Cut VersionValue) → Opens c (release m n p) → Opens c (record (least_of m n p) { build = build })
    as_release Start opens = opens
    as_release (Before q) opens =
        (opens.0, record { major = opens.1.major; minor = opens.1.minor; patch = opens.1.patch })
    as_release (After q) opens =
        (opens.0, record { major = opens.1.major; minor = opens.1.minor; patch = opens.1.patch })
    as_release End opens = opens
triple-candidate included set m n p build w floor closed same (inr (shut, is)) =
    let final : VersionValue = record (release m n p) { build = build } in
    subst (IsCandidate included set) (sym is) (record {
      begins = from-closed included set m n p final floor (record { major = refl; minor = refl; patch = refl })
          (λ pre. pre refl) (λ opened. elim opened [
            | inl is ↦ shut (inl is)
            | inr (inl opens) ↦ closed (as_plain set.lower opens)
            | inr (inr opens) ↦ shut (inr (as_plain set.upper opens))
          ]);
      opened = λ pre. absurd (pre refl);
      build = same;
    })
  where
    as_plain : (c : Cut VersionValue) → Opens c (record (release m n p) { build = build }) → Opens c (release m n p)
    as_plain Start opens = opens
    as_plain (Before q) opens =
        (opens.0, record { major = opens.1.major; minor = opens.1.minor; patch = opens.1.patch })
    as_plain (After q) opens =
        (opens.0, record { major = opens.1.major; minor = opens.1.minor; patch = opens.1.patch })
    as_plain End opens = opens

-- from the start
pub start-candidate : (included : Bool) (set : Ends VersionValue) (w : VersionValue) → set.lower ≡ Start
    → IsLeastOfTriple included set.upper 0 0 0 [] w → IsCandidate included set w
start-candidate included set w is least = triple-candidate included set 0 0 0 [] w
    (subst (λ (c : Cut VersionValue). IsFloor c (least_of 0 0 0)) (sym is) start-floor)
    (λ opens. subst (λ (c : Cut VersionValue). Opens c (release 0 0 0)) is opens) (ap build_at (sym is)) least

-- after a release: the triple with the next patch
pub patch-candidate : (included : Bool) (set : Ends VersionValue) (v w : VersionValue) → set.lower ≡ After v → ¬
    IsPrerelease v
    → IsLeastOfTriple included set.upper v.major v.minor (v.patch + 1) v.build w → IsCandidate included set w
patch-candidate included set v w is final least =
    let next = least_of v.major v.minor (v.patch + 1) in
    triple-candidate included set v.major v.minor (v.patch + 1) v.build w
    (subst (λ (c : Cut VersionValue). IsFloor c next) (sym is)
    (after-floor v next (patch-above v) (λ u above. none-between_patches v u final above)))
    (λ opens. final (subst (λ (c : Cut VersionValue). Opens c (release v.major v.minor (v.patch + 1))) is opens).0)
    (ap build_at (sym is)) least
