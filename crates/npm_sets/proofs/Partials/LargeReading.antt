-- Texts in which a number is too large: after how many components it stands.
use Rattle.std.proofs.Common.{◌≡◌, ◌≤◌, ℕ, suc, Bool, false, List, [], ◌∷◌, ◌++◌, Option, Ok, Err, refl, sym, ap}
use Rattle.std.proofs.Common.{◌∙◌, append_assoc, arith, inl, inr, length, subst}
use Rattle.std.proofs.lemmas.Bool.{cases_Bool, eqb-true}
use Rattle.std.specs.List.{AllByRecursion}
use Rattle.std.specs.Prelude.{◌==◌, ◌||◌}
use Rattle.semver_texts.specs.Characters.{dot}
use Rattle.semver_texts.specs.Reading.{Read, ◌>>=◌}
use Rattle.semver_texts.specs.declared.parse.fault.Fault.{Fault}
use Rattle.semver_texts.specs.Lemmas.Public.{refusal}
use Rattle.npm_sets.specs.NpmMeaning.{is_unknown}
use Rattle.npm_sets.specs.PartialLimits.{BeginsTooLarge, IsNpmComponent, dotted}
use Rattle.npm_sets.specs.PartialTexts.{after_dot, are_strict, read_component, read_components, read_from_extras}
use Rattle.npm_sets.specs.PartialTexts.{read_from_minor, read_from_patch}
use Rattle.npm_sets.proofs.Partials.ComponentReading.{component-again, component-takes}
use Rattle.npm_sets.proofs.Partials.LargeNumbers.{component-large, large-again, missing-unknown, too_large}

-- some components, each with its dot, and such a number
pub record FollowsLarge (loose : Bool) (most : ℕ) (text : List ℕ) : Type 0 where
  pub before : List (List ℕ)
  pub rest : List ℕ
  pub whole : text ≡ dotted before ++ rest
  pub few : length before ≤ most
  pub components : AllByRecursion (λ part. (component : Option ℕ) × IsNpmComponent loose part component) before
  pub large : BeginsTooLarge loose rest

-- ---- the components before it

pub dotted-none : (rest : List ℕ) → dotted [] ++ rest ≡ rest
unfolding dotted
dotted-none rest = refl

pub dotted-more : (part : List ℕ) (parts : List (List ℕ)) (rest : List ℕ)
    → dotted (part ∷ parts) ++ rest ≡ part ++ (dot ∷ (dotted parts ++ rest))
unfolding dotted
dotted-more part parts rest = append_assoc part (dot ∷ dotted parts) rest

follows-now : (loose : Bool) (most : ℕ) (text : List ℕ) → BeginsTooLarge loose text → FollowsLarge loose most text
follows-now loose most text h = record {
  before = [];
  rest = text;
  whole = sym (dotted-none text);
  few = omega arith;
  components = tt;
  large = h;
}

follows-later : (loose : Bool) (most : ℕ) (part text : List ℕ) (component : Option ℕ)
    → IsNpmComponent loose part component → FollowsLarge loose most text
    → FollowsLarge loose (suc most) (part ++ (dot ∷ text))
follows-later loose most part text component is f = record {
  before = part ∷ f.before;
  rest = f.rest;
  whole = ap (λ (l : List ℕ). part ++ (dot ∷ l)) f.whole ∙ sym (dotted-more part f.before f.rest);
  few = omega (arith, f.few);
  components = ((component, is), f.components);
  large = f.large;
}

-- ---- where reading stops

-- after a component: a dot, and such a number from there on
pub record AfterDot (loose : Bool) (most : ℕ) (text : List ℕ) : Type 0 where
  pub rest : List ℕ
  pub whole : text ≡ dot ∷ rest
  pub follows : FollowsLarge loose most rest

-- a component, a dot, and such a number from there on
later : (loose : Bool) (most : ℕ) (text rest : List ℕ) (component : Option ℕ)
    → read_component loose text ≡ Ok (component, rest) → AfterDot loose most rest
    → FollowsLarge loose (suc most) text
later loose most text rest component r a =
    let t = component-takes loose text component rest r in
    subst (FollowsLarge loose (suc most)) (sym (t.whole ∙ ap (λ (l : List ℕ). t.taken ++ l) a.whole))
    (follows-later loose most t.taken a.rest component t.is a.follows)

-- with a fault that is not unknown
module _ (loose : Bool) (fault : Fault) (known : is_unknown fault ≡ false) where
  -- extras have none
  extras-well : (major minor patch : Option ℕ) (text : List ℕ)
      → read_from_extras loose major minor patch text ≡ refusal fault → ⊥
  extras-well major minor patch text h = elim (cases_Bool (loose || are_strict text)) [
    | inl allowed ↦ cc (rw allowed at h)
    | inr refused ↦ missing-unknown text fault (rw refused at h) known
  ]

  third-large : (text : List ℕ) (major minor : Option ℕ) (read : Read (Option ℕ)) → read_component loose text ≡ read
      → (read >>= λ patch. read_from_extras loose major minor patch.0 patch.1) ≡ refusal fault
      → FollowsLarge loose 0 text
  third-large text major minor (Ok c) r h = absurd (extras-well major minor c.0 c.1 h)
  third-large text major minor (Err e) r h =
      follows-now loose 0 text (component-large loose text fault (grind (arith, r, h)) known)

  from_patch-large : (text : List ℕ) (major minor : Option ℕ)
      → read_from_patch loose major minor text (after_dot text) ≡ refusal fault → AfterDot loose 0 text
  from_patch-large [] major minor h = cc h
  from_patch-large (b ∷ text) major minor h = elim (cases_Bool (b == dot)) [
    | inr other ↦ cc (rw other at h)
    | inl here ↦ record {
      rest = text;
      whole = ap (λ (c : ℕ). c ∷ text) (eqb-true b dot here);
      follows = third-large text major minor (read_component loose text) refl (rw here at h);
    }
  ]

  second-large : (text : List ℕ) (major : Option ℕ) (read : Read (Option ℕ)) → read_component loose text ≡ read
      → (read >>= λ minor. read_from_patch loose major minor.0 minor.1 (after_dot minor.1)) ≡ refusal fault
      → FollowsLarge loose 1 text
  second-large text major (Ok c) r h = later loose 0 text c.1 c.0 r (from_patch-large c.1 major c.0 h)
  second-large text major (Err e) r h =
      follows-now loose 1 text (component-large loose text fault (grind (arith, r, h)) known)

  from_minor-large : (text : List ℕ) (major : Option ℕ)
      → read_from_minor loose major text (after_dot text) ≡ refusal fault → AfterDot loose 1 text
  from_minor-large [] major h = cc h
  from_minor-large (b ∷ text) major h = elim (cases_Bool (b == dot)) [
    | inr other ↦ cc (rw other at h)
    | inl here ↦ record {
      rest = text;
      whole = ap (λ (c : ℕ). c ∷ text) (eqb-true b dot here);
      follows = second-large text major (read_component loose text) refl (rw here at h);
    }
  ]

  first-large : (text : List ℕ) (read : Read (Option ℕ)) → read_component loose text ≡ read
      → (read >>= λ major. read_from_minor loose major.0 major.1 (after_dot major.1)) ≡ refusal fault
      → FollowsLarge loose 2 text
  first-large text (Ok c) r h = later loose 1 text c.1 c.0 r (from_minor-large c.1 c.0 h)
  first-large text (Err e) r h =
      follows-now loose 2 text (component-large loose text fault (grind (arith, r, h)) known)

  pub components-large : (text : List ℕ) → read_components loose text ≡ refusal fault → FollowsLarge loose 2 text
  components-large text h = first-large text (read_component loose text) refl h

-- ---- and that it stops there

none-before : (loose : Bool) (text : List ℕ) → BeginsTooLarge loose text
    → read_components loose text ≡ too_large (length text)
none-before loose text h = rw (large-again loose text h) refl

one-before : (loose : Bool) (first text : List ℕ) (major : Option ℕ) → IsNpmComponent loose first major
    → BeginsTooLarge loose text → read_components loose (first ++ (dot ∷ text)) ≡ too_large (length text)
one-before loose first text major one_read h =
    let c1 = component-again loose first (dot ∷ text) major one_read (λ some. refl) in
    rw (c1, large-again loose text h) refl

two-before : (loose : Bool) (first second text : List ℕ) (major minor : Option ℕ) → IsNpmComponent loose first major
    → IsNpmComponent loose second minor → BeginsTooLarge loose text
    → read_components loose (first ++ (dot ∷ (second ++ (dot ∷ text)))) ≡ too_large (length text)
two-before loose first second text major minor one_read two_read h =
    let c1 = component-again loose first (dot ∷ (second ++ (dot ∷ text))) major one_read (λ some. refl) in
    let c2 = component-again loose second (dot ∷ text) minor two_read (λ some. refl) in
    rw (c1, c2, large-again loose text h) refl

pub large-stops : (loose : Bool) (before : List (List ℕ)) (rest : List ℕ) → length before ≤ 2
    → AllByRecursion (λ part. (component : Option ℕ) × IsNpmComponent loose part component) before
    → BeginsTooLarge loose rest → read_components loose (dotted before ++ rest) ≡ too_large (length rest)
large-stops loose [] rest few each h = rw (dotted-none rest) (none-before loose rest h)
large-stops loose (first ∷ []) rest few each h =
    rw (dotted-more first [] rest, dotted-none rest) (one-before loose first rest each.0.0 each.0.1 h)
large-stops loose (first ∷ second ∷ []) rest few each h =
    rw (dotted-more first (second ∷ []) rest, dotted-more second [] rest, dotted-none rest)
    (two-before loose first second rest each.0.0 each.1.0.0 each.0.1 each.1.0.1 h)
large-stops loose (first ∷ second ∷ third ∷ more) rest few each h = absurd (omega (arith, few))
