-- Partials: the reader reads exactly those of the grammar, and each text is at most one.
use Rattle.std.proofs.Common.{◌≡◌, ◌≤◌, ℕ, Bool, true, false, List, [], ◌∷◌, ◌++◌, Option, Some, None, Ok, Err, refl}
use Rattle.std.proofs.Common.{◌∙◌, append-nil, ap, arith, length, subst, sym}
use Rattle.std.proofs.lemmas.Bool.{le-leb, leb-true}
use Rattle.std.proofs.lemmas.Bool.Decides.{nat_tests}
use Rattle.std.specs.Prelude.{◌||◌}
use Rattle.semver_texts.specs.Characters.{BeginsWithNo, dot, is_digit, is_x}
use Rattle.semver_texts.specs.Reading.{Read, ◌>>=◌, prefix_of, rest_of}
use Rattle.semver_texts.specs.VersionText.{HasThreeParts}
use Rattle.semver_texts.specs.declared.TheConstants.{MAX_LENGTH}
use Rattle.semver_texts.specs.Lemmas.Public.{ok-value, prefix_of-all, prefix_of-rest_of, rest_of-again}
use Rattle.semver_sets.specs.PartialText.{IsComponentText, IsUnmarkedPartial, Partial, one, three, two}
use Rattle.npm_sets.specs.PartialGrammar.{IsNpmPartialText, IsStrict}
use Rattle.npm_sets.specs.PartialLaws.{IsOneNpmPartial, IsReadAsWritten}
use Rattle.npm_sets.specs.PartialLimits.{IsNpmComponent}
use Rattle.npm_sets.specs.PartialTexts.{are_strict, partial_of, read_component, read_components, whole}
use Rattle.npm_sets.specs.WordTexts.{is_mark}
use Rattle.npm_sets.proofs.Partials.ComponentReading.{component-again, component_read}
use Rattle.npm_sets.proofs.Partials.DottedReading.{components-taken, no-extras, read_as, same-read}
use Rattle.npm_sets.proofs.Partials.StrictExtras.{extras-read, strict-again}

-- ---- components are read

last-again : (loose : Bool) (text : List ℕ) (component : Option ℕ) → IsNpmComponent loose text component
    → read_component loose text ≡ component_read component []
last-again loose text component h =
    ap (read_component loose) (sym (append-nil text)) ∙ component-again loose text [] component h (λ digit. tt)

-- what strict form lets through, and all that loose form does
allowed : (loose : Bool) (text : List ℕ) → (loose ≡ false → are_strict text ≡ true) → (loose || are_strict text) ≡ true
allowed true text h = refl
allowed false text h = h refl

three-again : (loose : Bool) (text : List ℕ) (p : Partial)
    (h : HasThreeParts IsComponentText text p.major p.minor p.patch p.pre_release p.build)
    → (loose ≡ false → IsStrict p text (three h)) → read_components loose text ≡ read_as p []
three-again loose text p h strict =
    let after_second = dot ∷ (h.third ++ h.extras) in
    let c1 = component-again loose h.first (dot ∷ (h.second ++ after_second)) p.major
    (record { read = h.major_text; strict = λ form. (strict form).0 }) (λ some. refl) in
    let c2 = component-again loose h.second after_second p.minor
    (record { read = h.minor_text; strict = λ form. (strict form).1 }) (λ some. refl) in
    let c3 = component-again loose h.third h.extras p.patch
    (record { read = h.patch_text; strict = λ form. (strict form).2 }) h.digits_end in
    let tested = allowed loose h.extras
    (λ form. strict-again h.extras p.pre_release p.build h.extras_text (strict form).3) in
    rw (h.whole, c1, c2, c3, tested, extras-read h.extras p.pre_release p.build h.extras_text) refl

components-again : (loose : Bool) (text : List ℕ) (p : Partial) (h : IsUnmarkedPartial p text)
    → (loose ≡ false → IsStrict p text h) → read_components loose text ≡ read_as p []
components-again loose text p (one major says h) strict =
    let c1 = last-again loose text major (record { read = h; strict = strict }) in
    rw (c1, no-extras major None, says) refl
components-again loose text p (two major minor says h) strict =
    let c1 = component-again loose h.first (dot ∷ h.second) major
    (record { read = h.major_text; strict = λ form. (strict form).0 }) (λ some. refl) in
    let c2 = last-again loose h.second minor
    (record { read = h.minor_text; strict = λ form. (strict form).1 }) in
    rw (h.whole, c1, c2, no-extras major minor, says) refl
components-again loose text p (three h) strict = three-again loose text p h strict

-- ---- marks

pub digit-no_mark : (b : ℕ) → is_digit b ≡ true → is_mark b ≡ false
digit-no_mark b h = grind (arith, nat_tests)

x-no_mark : (b : ℕ) → is_x b ≡ true → is_mark b ≡ false
x-no_mark b h = grind (arith, nat_tests)

-- no mark begins a component
pub component-no_mark : (text rest : List ℕ) (component : Option ℕ) → IsComponentText text component
    → BeginsWithNo is_mark (text ++ rest)
component-no_mark text rest None h = rw h.1 (x-no_mark h.0 h.2)
component-no_mark [] rest (Some number) h = absurd h.some
component-no_mark (b ∷ text) rest (Some number) h = digit-no_mark b h.some

components-no_mark : (text : List ℕ) (p : Partial) → IsUnmarkedPartial p text → BeginsWithNo is_mark text
components-no_mark text p (one major says h) =
    subst (BeginsWithNo is_mark) (append-nil text) (component-no_mark text [] major h)
components-no_mark text p (two major minor says h) =
    rw h.whole (component-no_mark h.first (dot ∷ h.second) major h.major_text)
components-no_mark text p (three h) =
    rw h.whole (component-no_mark h.first (dot ∷ (h.second ++ (dot ∷ (h.third ++ h.extras)))) p.major h.major_text)

-- ---- partials

-- what follows the marks of a partial
pub partial-again : (loose : Bool) (text : List ℕ) (p : Partial) → IsNpmPartialText loose text p
    → read_components loose (rest_of is_mark text) ≡ read_as p []
partial-again loose text p h =
    ap (λ (l : List ℕ). read_components loose (rest_of is_mark l)) h.whole
    ∙ ap (read_components loose)
    (rest_of-again is_mark h.marks h.unmarked h.all (components-no_mark h.unmarked p h.components))
    ∙ components-again loose h.unmarked p h.components h.strict

pub partial-taken : (loose : Bool) (text : List ℕ) (p : Partial)
    → read_components loose (rest_of is_mark text) ≡ read_as p [] → IsNpmPartialText loose text p
partial-taken loose text p h =
    let c = components-taken loose (rest_of is_mark text) p h in
    record {
      marks = prefix_of is_mark text;
      unmarked = rest_of is_mark text;
      whole = sym (prefix_of-rest_of is_mark text);
      all = prefix_of-all is_mark text;
      components = c.components;
      strict = c.strict;
    }

-- nothing is left, and the text is short
record IsWhole (text : List ℕ) (read : Read Partial) (p : Partial) : Type 0 where
  pub all : read ≡ read_as p []
  pub short : length text ≤ MAX_LENGTH

whole-short : (text : List ℕ) (read : Read Partial) (p : Partial) → (read >>= λ r. whole text r) ≡ Ok p
    → IsWhole text read p
whole-short text (Err e) p h = cc h
whole-short text (Ok r) p h = grind (arith, ok-value, leb-true)

one_partial-read : (loose : Bool) (text : List ℕ) (p : Partial) → partial_of loose text ≡ Ok p
    → (length text ≤ MAX_LENGTH) × IsNpmPartialText loose text p
unfolding partial_of
one_partial-read loose text p h =
    let w = whole-short text (read_components loose (rest_of is_mark text)) p h in
    (w.short, partial-taken loose text p w.all)

one_partial-again : (loose : Bool) (text : List ℕ) (p : Partial)
    → (length text ≤ MAX_LENGTH) × IsNpmPartialText loose text p → partial_of loose text ≡ Ok p
unfolding partial_of
one_partial-again loose text p h = rw (partial-again loose text p h.1, le-leb (length text) MAX_LENGTH h.0) refl

pub read_as_written : (loose : Bool) (text : List ℕ) (p : Partial) → IsReadAsWritten loose text p
read_as_written loose text p = (one_partial-read loose text p, one_partial-again loose text p)

pub one_partial : (loose : Bool) (text : List ℕ) → IsOneNpmPartial loose text
one_partial loose text p q h g =
    (same-read p q [] [] (sym (partial-again loose text p h) ∙ partial-again loose text q g)).0
