-- The highest of the cuts at ends of a list that are not above a version, and the cuts between it and the version.
use native.Mathlib.Omega.{arith}
use Rattle.std.proofs.Common.{◌⊎◌, Bool, IsTrue, List, [], ◌∷◌, inl, inr}
use Rattle.std.specs.List.{AllByRecursion}
use Rattle.semver_cuts.specs.declared.cut.Cut.{Cut}
use Rattle.semver_cuts.specs.declared.cut.Cut.TheVariants.{Before}
use Rattle.semver_cuts.specs.Ends.{Ends, IsCutAtMost}
use Rattle.semver_cuts.specs.Lemmas.Ends.{at_most-below, at_most-or-below, at_most_refl, at_most_trans}
use Rattle.semver_cuts.specs.Lemmas.Ends.{below-not-at_most}
use Rattle.semver_texts.specs.Comparison.{version_cmp}
use Rattle.semver_sets.specs.Meaning.{AnyByRecursion}
use Rattle.semver_texts.specs.Version.{HasSameTriple, IsPrerelease, VersionValue}
use Rattle.semver_texts.specs.Lemmas.Public.{triple-back, version_total}
use Rattle.node_semver.specs.Least.{IsBeyond}
use Rattle.node_semver.specs.Private.LeastViews.{IsIn, IsInRange, IsOpenIn}
use Rattle.node_semver.proofs.Least.LeastLemmas.{is-opened, lies-in, lies-inside, open_in-triple}

-- ---- lists

-- what some element is together with what all are
pub any-along : {X : Type 0} (R P Q : X → Type 0) (xs : List X) → ((x : X) → R x → P x → Q x) → AllByRecursion R xs
    → AnyByRecursion P xs → AnyByRecursion Q xs
any-along R P Q [] f all some = some
any-along R P Q (x ∷ xs) f all (inl here) = inl (f x all.0 here)
any-along R P Q (x ∷ xs) f all (inr there) = inr (any-along R P Q xs f all.1 there)

pub some-along : {X : Type 0} (R P : X → Type 0) (xs : List X) → AllByRecursion R xs → AnyByRecursion P xs
    → (x : X) × R x × P x
some-along R P [] all some = absurd some
some-along R P (x ∷ xs) all (inl here) = (x, all.0, here)
some-along R P (x ∷ xs) all (inr there) = some-along R P xs all.1 there

-- ---- the highest cut

-- the cut is not above the version, is at least the first cut, and no end of the list lies between it and the version
pub record IsHighest {X : Type 0} (end : X → Cut VersionValue) (xs : List X) (w : VersionValue)
    (first c : Cut VersionValue)
    : Type 0 where
  pub below : IsCutAtMost version_cmp c (Before w)
  pub above : IsCutAtMost version_cmp first c
  pub each : AllByRecursion (λ x. IsCutAtMost version_cmp (end x) (Before w) → IsCutAtMost version_cmp (end x) c) xs

-- such a cut, of which P holds as of the first and of all ends
pub record HighestOf {X : Type 0} (P : Cut VersionValue → Type 0) (end : X → Cut VersionValue) (xs : List X)
    (w : VersionValue) (first : Cut VersionValue) : Type 0 where
  pub cut : Cut VersionValue
  pub is : P cut
  pub highest : IsHighest end xs w first cut

module _ {X : Type 0} (P : Cut VersionValue → Type 0) (end : X → Cut VersionValue) (w : VersionValue) where
  pub highest : (xs : List X) (first : Cut VersionValue) → P first → IsCutAtMost version_cmp first (Before w)
      → AllByRecursion (λ x. P (end x)) xs → HighestOf P end xs w first
  highest [] first is below all = grind (arith, at_most_refl, version_total)
  highest (x ∷ xs) first is below all = elim (at_most-or-below version_total (end x) first) [
    | inl lower ↦
        let found = highest xs first is below all.1 in
        record {
          cut = found.cut;
          is = found.is;
          highest = record {
            below = found.highest.below;
            above = found.highest.above;
            each = (
              λ _. at_most_trans version_total
                  (end x) first found.cut lower found.highest.above,
              found.highest.each,
            );
          };
        }
    | inr higher ↦ elim (at_most-or-below version_total (end x) (Before w)) [
      | inl inside ↦
          let found = highest xs (end x) all.0 inside all.1 in
          record {
            cut = found.cut;
            is = found.is;
            highest = record {
              below = found.highest.below;
              above = at_most_trans version_total first (end x) found.cut (inl higher) found.highest.above;
              each = (λ _. found.highest.above, found.highest.each);
            };
          }
      | inr outside ↦
          let found = highest xs first is below all.1 in
          record {
            cut = found.cut;
            is = found.is;
            highest = record {
              below = found.highest.below;
              above = found.highest.above;
              each = (
                λ k. absurd (below-not-at_most version_total (Before w) (end x) outside k),
                found.highest.each,
              );
            };
          }
    ]
  ]

-- ---- ends that open a triple

-- two versions ask the same of what an end opens: two releases, or two prereleases of one triple
pub data AskAlike (v w : VersionValue) : Type 0 where
  both_releases : ¬ IsPrerelease v → ¬ IsPrerelease w → AskAlike v w
  both_prereleases : IsPrerelease v → IsPrerelease w → HasSameTriple v w → AskAlike v w

-- with prereleases included, nothing is asked of ends
abbrev pub IsAlike : Bool → VersionValue → VersionValue → Type 0
IsAlike included v w = IsTrue included ⊎ AskAlike v w

opened-forth : (included : Bool) (set : Ends VersionValue) (v w : VersionValue) → IsAlike included v w
    → (IsPrerelease v → IsOpenIn included set v) → IsPrerelease w → IsOpenIn included set w
opened-forth included set v w h1 h2 = grind (arith, open_in-triple)

alike-back : (included : Bool) (v w : VersionValue) → IsAlike included v w → IsAlike included w v
alike-back included v w (inl is) = inl is
alike-back included v w (inr (both_releases n m)) = inr (both_releases m n)
alike-back included v w (inr (both_prereleases p q t)) = inr (both_prereleases q p (triple-back v w t))

-- ---- between the highest cut and the version

module _ (included : Bool) (c : Cut VersionValue) (x w : VersionValue) (alike : IsAlike included x w)
    (from : IsCutAtMost version_cmp c (Before x)) (to : IsCutAtMost version_cmp (Before x) (Before w)) where
  -- what begins no higher than the cut and has the version has what lies between
  pub set-between : (set : Ends VersionValue)
      → (IsCutAtMost version_cmp set.lower (Before w) → IsCutAtMost version_cmp set.lower c)
      → IsIn included set w → IsIn included set x
  set-between set lower is =
      let inside = lies-inside included set w is in
      lies-in included set x
      (record {
        lower = at_most_trans version_total set.lower c (Before x) (lower inside.lower) from;
        upper = at_most-below version_total (Before x) (Before w) set.upper to inside.upper;
      })
      (opened-forth included set w x (alike-back included x w alike) (is-opened included set w is))

  -- so does a list of sets that all begin no higher than the cut
  pub has-between : (sets : List (Ends VersionValue))
      → AllByRecursion (λ (set : Ends VersionValue). IsCutAtMost version_cmp set.lower (Before w)
      → IsCutAtMost version_cmp set.lower c) sets
      → IsInRange included sets w → IsInRange included sets x
  has-between sets lowers is = any-along _ (λ (set : Ends VersionValue). IsIn included set w)
      (λ (set : Ends VersionValue). IsIn included set x) sets (λ set lower. set-between set lower) lowers is

  -- what has it and ends no lower than the version has the version
  set-beyond : (set : Ends VersionValue)
      → (IsCutAtMost version_cmp set.upper (Before w) → IsCutAtMost version_cmp set.upper c)
      → IsIn included set x → IsIn included set w
  set-beyond set upper is =
      let inside = lies-inside included set x is in
      elim (at_most-or-below version_total set.upper (Before w)) [
        | inl ends ↦ absurd (below-not-at_most version_total (Before x) set.upper inside.upper
            (at_most_trans version_total set.upper c (Before x) (upper ends) from))
        | inr goes_on ↦ lies-in included set w
            (record {
              lower = at_most_trans version_total set.lower (Before x) (Before w) inside.lower to;
              upper = goes_on;
            })
            (opened-forth included set x w alike (is-opened included set x is))
      ]

  -- so the one list has what lies between and the other has not, as it is of the version
  pub beyond-between : (sets others : List (Ends VersionValue))
      → AllByRecursion (λ (set : Ends VersionValue). IsCutAtMost version_cmp set.lower (Before w)
      → IsCutAtMost version_cmp set.lower c) sets
      → AllByRecursion (λ (set : Ends VersionValue). IsCutAtMost version_cmp set.upper (Before w)
      → IsCutAtMost version_cmp set.upper c) others
      → IsBeyond (IsInRange included sets) (IsInRange included others) w
      → IsBeyond (IsInRange included sets) (IsInRange included others) x
  beyond-between sets others lowers uppers beyond = record {
    admitted = has-between sets lowers beyond.admitted;
    turned_away = λ is. beyond.turned_away
        (any-along _ (λ (set : Ends VersionValue). IsIn included set x)
        (λ (set : Ends VersionValue). IsIn included set w) others
        (λ set upper. set-beyond set upper) uppers is);
  }
