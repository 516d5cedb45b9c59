-- Components with dots between them: the reader reads exactly the unmarked partials.
use native.Mathlib.Omega.{arith}
use Rattle.std.proofs.Common.{◌≡◌, ℕ, List, [], ◌∷◌, ◌++◌, Option, Some, None, refl, sym, ap, ◌∙◌, inl, inr}
use Rattle.std.proofs.Common.{append_assoc}
use Rattle.std.proofs.lemmas.Bool.{cases_Bool, eqb-true}
use Rattle.std.proofs.lemmas.Option.{same_Some}
use Rattle.std.specs.Prelude.{◌==◌}
use Rattle.semver_texts.specs.Characters.{dot, is_digit}
use Rattle.semver_texts.specs.Characters.{IsCleanEnd}
use Rattle.semver_sets.specs.PartialText.{IsComponentText, IsUnmarkedPartial, Partial, one, plain_partial, three, two}
use Rattle.semver_texts.specs.Reading.{read_extras}
use Rattle.semver_sets.specs.Private.WordReading.{Component, ReadPartial, read_component, read_components}
use Rattle.semver_sets.specs.Private.WordReading.{read_from_minor, read_from_patch, with_extras, with_first}
use Rattle.semver_sets.specs.Private.WordReading.{with_second, with_third}
use Rattle.semver_sets.proofs.Words.ComponentReading.{component-again, component-takes}
use Rattle.semver_texts.specs.Lemmas.Public.{clean-ends_extras, clean-no_digit, extras-again, extras-takes}
use Rattle.semver_texts.specs.Lemmas.Public.{no-append, prefix_of-no, regroup}

-- one to three components, at the start of a text
pub record TakesComponents (text : List ℕ) (p : Partial) (rest : List ℕ) : Type 0 where
  pub taken : List ℕ
  pub whole : text ≡ taken ++ rest
  pub read : IsUnmarkedPartial p taken

-- a success: a partial and the rest
abbrev pub read_as : Partial → List ℕ → ReadPartial
read_as p rest = Some (p, rest)

-- equal results have equal partials and rests
pub same-read : (p q : Partial) (text rest : List ℕ) → read_as p text ≡ read_as q rest → (p ≡ q) × (text ≡ rest)
same-read p q text rest h = grind (arith, same_Some)

-- a partial that ends after its first component
one-taken : (taken text : List ℕ) (major : Option ℕ) (p : Partial) (rest : List ℕ) → IsComponentText taken major
    → read_as (plain_partial major None None) text ≡ read_as p rest → TakesComponents (taken ++ text) p rest
one-taken taken text major p rest first h =
    let e = same-read (plain_partial major None None) p text rest h in
    record {
      taken = taken;
      whole = ap (λ (l : List ℕ). taken ++ l) e.1;
      read = one major (sym e.0) first;
    }

-- and one that ends after its second
two-taken : (first second text : List ℕ) (major minor : Option ℕ) (p : Partial) (rest : List ℕ)
    → IsComponentText first major
    → IsComponentText second minor → read_as (plain_partial major minor None) text ≡ read_as p rest
    → TakesComponents (first ++ (dot ∷ (second ++ text))) p rest
two-taken first second text major minor p rest one_read two_read h =
    let e = same-read (plain_partial major minor None) p text rest h in
    record {
      taken = first ++ (dot ∷ second);
      whole = ap (λ (l : List ℕ). first ++ (dot ∷ (second ++ l))) e.1 ∙ sym (append_assoc first (dot ∷ second) rest);
      read = two major minor (sym e.0) (record {
        first = first;
        second = second;
        whole = refl;
        major_text = one_read;
        minor_text = two_read;
      });
    }

-- a third component and extras
third-taken : (first second text : List ℕ) (major minor : Option ℕ) (read : Component) (p : Partial) (rest : List ℕ)
    → IsComponentText first major → IsComponentText second minor → read_component text ≡ read
    → with_third major minor read ≡ Some (p, rest) → TakesComponents (first ++ (dot ∷ (second ++ (dot ∷ text)))) p rest
third-taken first second text major minor None p rest one_read two_read r h = cc h
third-taken first second text major minor (Some c) p rest one_read two_read r h =
    let e = same-read (with_extras major minor c.0 (read_extras c.1).0) p (read_extras c.1).1 rest h in
    grind (arith, component-takes text c.0 c.1 r, extras-takes c.1, regroup, prefix_of-no)

-- what follows a second component
from_patch-taken : (first second text : List ℕ) (major minor : Option ℕ) (p : Partial) (rest : List ℕ)
    → IsComponentText first major → IsComponentText second minor → read_from_patch major minor text ≡ Some (p, rest)
    → TakesComponents (first ++ (dot ∷ (second ++ text))) p rest
from_patch-taken first second text major minor p rest h1 h2 h3 = grind
    (arith, two-taken, cases_Bool, eqb-true, third-taken)

-- a second component and the rest
second-taken : (first text : List ℕ) (major : Option ℕ) (read : Component) (p : Partial) (rest : List ℕ)
    → IsComponentText first major → read_component text ≡ read → with_second major read ≡ Some (p, rest)
    → TakesComponents (first ++ (dot ∷ text)) p rest
second-taken first text major None p rest one_read r h = grind arith
second-taken first text major (Some c) p rest one_read r h =
    grind (arith, component-takes text c.0 c.1 r, from_patch-taken)

-- what follows a first component
from_minor-taken : (first text : List ℕ) (major : Option ℕ) (p : Partial) (rest : List ℕ) → IsComponentText first major
    → read_from_minor major text ≡ Some (p, rest) → TakesComponents (first ++ text) p rest
from_minor-taken first [] major p rest one_read h = one-taken first [] major p rest one_read h
from_minor-taken first (b ∷ text) major p rest one_read h = elim (cases_Bool (b == dot)) [
  | inr other ↦ one-taken first (b ∷ text) major p rest one_read (rw other at h)
  | inl here ↦ grind (arith, eqb-true, second-taken)
]

-- a first component and the rest
first-taken : (text : List ℕ) (read : Component) (p : Partial) (rest : List ℕ) → read_component text ≡ read
    → with_first read ≡ Some (p, rest) → TakesComponents text p rest
first-taken text None p rest r h = grind arith
first-taken text (Some c) p rest r h = grind (arith, component-takes text c.0 c.1 r, from_minor-taken)

-- the text before the rest is an unmarked partial
pub components-takes : (text : List ℕ) (p : Partial) (rest : List ℕ) → read_components text ≡ Some (p, rest)
    → TakesComponents text p rest
unfolding read_components
components-takes text p rest h = first-taken text (read_component text) p rest refl h

-- components are read
pub components-again : (text rest : List ℕ) (p : Partial) → IsUnmarkedPartial p text → IsCleanEnd rest
    → read_components (text ++ rest) ≡ Some (p, rest)
unfolding read_components
components-again text rest p (one major says h) clean = grind (arith, component-again, clean-no_digit)
components-again text rest p (two major minor says h) clean = grind
    (arith, append_assoc, component-again, clean-no_digit)
components-again text rest p (three h) clean =
    let whole : text ++ rest ≡ h.first ++ (dot ∷ (h.second ++ (dot ∷ (h.third ++ (h.extras ++ rest))))) =
    ap (λ (l : List ℕ). l ++ rest) h.whole ∙ sym (regroup h.first h.second h.third h.extras rest) in
    let after_second = dot ∷ (h.third ++ (h.extras ++ rest)) in
    let c1 = component-again h.first (dot ∷ (h.second ++ after_second)) p.major h.major_text (λ some. refl) in
    let c2 = component-again h.second after_second p.minor h.minor_text (λ some. refl) in
    let c3 = component-again h.third (h.extras ++ rest) p.patch h.patch_text
    (λ some. no-append is_digit h.extras rest (h.digits_end some) (clean-no_digit rest clean)) in
    let x = extras-again h.extras rest p.pre_release p.build h.extras_text (clean-ends_extras rest clean) in
    rw (whole, c1, c2, c3, x) refl
