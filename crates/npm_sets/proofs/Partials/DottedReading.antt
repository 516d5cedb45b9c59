-- Components with dots between them: what is read of a whole text is of the grammar of partials, without marks.
use Rattle.std.proofs.Common.{◌≡◌, ℕ, Bool, true, false, List, [], ◌∷◌, ◌++◌, Option, None, Ok, Err, refl, sym, ap}
use Rattle.std.proofs.Common.{◌∙◌, append-nil, inl, inr, subst}
use Rattle.std.proofs.lemmas.Bool.{cases_Bool, eqb-true}
use Rattle.std.specs.Prelude.{◌==◌, ◌||◌}
use Rattle.semver_texts.specs.Characters.{BeginsWith, BeginsWithNo, dot, is_digit}
use Rattle.semver_texts.specs.IdentifierText.{IsExtrasText}
use Rattle.semver_texts.specs.Reading.{Read, ◌>>=◌, read_extras}
use Rattle.semver_texts.specs.VersionText.{HasThreeParts}
use Rattle.semver_texts.specs.Lemmas.Public.{clean_extras, ok-value}
use Rattle.semver_sets.specs.PartialText.{IsComponentText, IsUnmarkedPartial, Partial, one, plain_partial, three, two}
use Rattle.npm_sets.specs.PartialGrammar.{IsStrict}
use Rattle.npm_sets.specs.PartialLimits.{IsNpmComponent}
use Rattle.npm_sets.specs.PartialTexts.{after_dot, are_strict, read_component, read_components, read_from_extras}
use Rattle.npm_sets.specs.PartialTexts.{read_from_minor, read_from_patch, with_extras}
use Rattle.npm_sets.proofs.Partials.ComponentReading.{component-takes}
use Rattle.npm_sets.proofs.Partials.StrictExtras.{extras-taken, strict-takes}

-- one to three components, which are strict in strict form
pub record AreComponents (loose : Bool) (text : List ℕ) (p : Partial) : Type 0 where
  pub components : IsUnmarkedPartial p text
  pub strict : loose ≡ false → IsStrict p text components

-- a success: a partial and the rest
abbrev pub read_as : Partial → List ℕ → Read Partial
read_as p rest = Ok (p, rest)

pub same-read : (p q : Partial) (text rest : List ℕ) → read_as p text ≡ read_as q rest → (p ≡ q) × (text ≡ rest)
same-read p q text rest h =
    let e = ok-value (p, text) (q, rest) h in
    (ap (λ (r : Partial × List ℕ). r.0) e, ap (λ (r : Partial × List ℕ). r.1) e)

-- without extras
pub no-extras : (major minor : Option ℕ) → with_extras major minor None [] ≡ plain_partial major minor None
no-extras major minor = rw (clean_extras [] refl) refl

-- ---- one and two components

one-taken : (loose : Bool) (text : List ℕ) (major : Option ℕ) (p : Partial) → IsNpmComponent loose text major
    → with_extras major None None [] ≡ p → AreComponents loose text p
one-taken loose text major p first h = record {
  components = one major (sym h ∙ no-extras major None) first.read;
  strict = first.strict;
}

two-taken : (loose : Bool) (first second : List ℕ) (major minor : Option ℕ) (p : Partial)
    → IsNpmComponent loose first major → IsNpmComponent loose second minor → with_extras major minor None [] ≡ p
    → AreComponents loose (first ++ (dot ∷ second)) p
two-taken loose first second major minor p before behind h = record {
  components = two major minor (sym h ∙ no-extras major minor) (record {
    first = first;
    second = second;
    whole = refl;
    major_text = before.read;
    minor_text = behind.read;
  });
  strict = λ form. (before.strict form, behind.strict form);
}

-- ---- three components and extras

module _ (loose : Bool) (first second third extras : List ℕ) (major minor patch : Option ℕ)
    (one_read : IsNpmComponent loose first major) (two_read : IsNpmComponent loose second minor)
    (three_read : IsNpmComponent loose third patch) (ends : BeginsWith is_digit third → BeginsWithNo is_digit extras) where
  three-parts : IsExtrasText extras (read_extras extras).0.0 (read_extras extras).0.1
      → HasThreeParts IsComponentText (first ++ (dot ∷ (second ++ (dot ∷ (third ++ extras))))) major minor patch
      (read_extras extras).0.0 (read_extras extras).0.1
  three-parts text = record {
    first = first;
    second = second;
    third = third;
    extras = extras;
    whole = refl;
    major_text = one_read.read;
    minor_text = two_read.read;
    patch_text = three_read.read;
    digits_end = ends;
    extras_text = text;
  }

  three-taken : (loose || are_strict extras) ≡ true → (read_extras extras).1 ≡ []
      → AreComponents loose (first ++ (dot ∷ (second ++ (dot ∷ (third ++ extras))))) (with_extras major minor patch
      extras)
  unfolding three-parts
  three-taken allowed none =
      let text = extras-taken extras none in
      record {
        components = three (three-parts text);
        strict = λ form. (
          one_read.strict form,
          two_read.strict form,
          three_read.strict form,
          strict-takes extras (read_extras extras).0.0 (read_extras extras).0.1 text
              (sym (ap (λ (l : Bool). l || are_strict extras) form) ∙ allowed),
        );
      }

  from_extras-taken : (p : Partial) → read_from_extras loose major minor patch extras ≡ read_as p []
      → AreComponents loose (first ++ (dot ∷ (second ++ (dot ∷ (third ++ extras))))) p
  from_extras-taken p h = elim (cases_Bool (loose || are_strict extras)) [
    | inr refused ↦ cc (rw refused at h)
    | inl allowed ↦
        let e = same-read (with_extras major minor patch extras) p (read_extras extras).1 [] (rw allowed at h) in
        subst (λ (q : Partial). AreComponents loose (first ++ (dot ∷ (second ++ (dot ∷ (third ++ extras))))) q)
        e.0 (three-taken allowed e.1)
  ]

-- ---- component by component

third-taken : (loose : Bool) (first second text : List ℕ) (major minor : Option ℕ) (read : Read (Option ℕ))
    (p : Partial) → IsNpmComponent loose first major → IsNpmComponent loose second minor → read_component loose text ≡ read
    → (read >>= λ patch. read_from_extras loose major minor patch.0 patch.1) ≡ read_as p []
    → AreComponents loose (first ++ (dot ∷ (second ++ (dot ∷ text)))) p
third-taken loose first second text major minor (Err e) p before behind r h = cc h
third-taken loose first second text major minor (Ok c) p before behind r h =
    let t = component-takes loose text c.0 c.1 r in
    subst (λ (l : List ℕ). AreComponents loose (first ++ (dot ∷ (second ++ (dot ∷ l)))) p) (sym t.whole)
    (from_extras-taken loose first second t.taken c.1 major minor c.0 before behind t.is t.ends p h)

-- what follows a second component
from_patch-taken : (loose : Bool) (first second text : List ℕ) (major minor : Option ℕ) (p : Partial)
    → IsNpmComponent loose first major → IsNpmComponent loose second minor
    → read_from_patch loose major minor text (after_dot text) ≡ read_as p []
    → AreComponents loose (first ++ (dot ∷ (second ++ text))) p
from_patch-taken loose first second [] major minor p before behind h =
    let e = same-read (with_extras major minor None []) p [] [] h in
    subst (λ (l : List ℕ). AreComponents loose (first ++ (dot ∷ l)) p) (sym (append-nil second))
    (two-taken loose first second major minor p before behind e.0)
from_patch-taken loose first second (b ∷ text) major minor p before behind h = elim (cases_Bool (b == dot)) [
  | inr other ↦ cc (same-read (with_extras major minor None []) p (b ∷ text) [] (rw other at h)).1
  | inl here ↦
      rw (eqb-true b dot here)
      (third-taken loose first second text major minor (read_component loose text) p before behind refl (rw here at h))
]

second-taken : (loose : Bool) (first text : List ℕ) (major : Option ℕ) (read : Read (Option ℕ)) (p : Partial)
    → IsNpmComponent loose first major → read_component loose text ≡ read
    → (read >>= λ minor. read_from_patch loose major minor.0 minor.1 (after_dot minor.1)) ≡ read_as p []
    → AreComponents loose (first ++ (dot ∷ text)) p
second-taken loose first text major (Err e) p before r h = cc h
second-taken loose first text major (Ok c) p before r h =
    let t = component-takes loose text c.0 c.1 r in
    subst (λ (l : List ℕ). AreComponents loose (first ++ (dot ∷ l)) p) (sym t.whole)
    (from_patch-taken loose first t.taken c.1 major c.0 p before t.is h)

-- what follows a first component
from_minor-taken : (loose : Bool) (first text : List ℕ) (major : Option ℕ) (p : Partial) → IsNpmComponent loose first major
    → read_from_minor loose major text (after_dot text) ≡ read_as p [] → AreComponents loose (first ++ text) p
from_minor-taken loose first [] major p before h =
    let e = same-read (with_extras major None None []) p [] [] h in
    subst (λ (l : List ℕ). AreComponents loose l p) (sym (append-nil first)) (one-taken loose first major p before e.0)
from_minor-taken loose first (b ∷ text) major p before h = elim (cases_Bool (b == dot)) [
  | inr other ↦ cc (same-read (with_extras major None None []) p (b ∷ text) [] (rw other at h)).1
  | inl here ↦
      rw (eqb-true b dot here)
      (second-taken loose first text major (read_component loose text) p before refl (rw here at h))
]

first-taken : (loose : Bool) (text : List ℕ) (read : Read (Option ℕ)) (p : Partial) → read_component loose text ≡ read
    → (read >>= λ major. read_from_minor loose major.0 major.1 (after_dot major.1)) ≡ read_as p []
    → AreComponents loose text p
first-taken loose text (Err e) p r h = cc h
first-taken loose text (Ok c) p r h =
    let t = component-takes loose text c.0 c.1 r in
    subst (λ (l : List ℕ). AreComponents loose l p) (sym t.whole)
    (from_minor-taken loose t.taken c.1 c.0 p t.is h)

pub components-taken : (loose : Bool) (text : List ℕ) (p : Partial) → read_components loose text ≡ read_as p []
    → AreComponents loose text p
components-taken loose text p h = first-taken loose text (read_component loose text) p refl h
