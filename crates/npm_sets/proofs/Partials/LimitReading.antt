-- Texts above a limit: the reader refuses exactly these in loose form too.
use Rattle.std.proofs.Common.{◌≡◌, ◌<◌, ℕ, Bool, false, List, [], ◌∷◌, ◌++◌, Option, Ok, Err, refl, sym, ap}
use Rattle.std.proofs.Common.{◌∙◌, arith, inl, inr, length}
use Rattle.std.proofs.lemmas.Bool.{lt-leb}
use Rattle.std.specs.List.{AllByRecursion}
use Rattle.semver_texts.specs.Characters.{BeginsWithNo, dot, is_digit}
use Rattle.semver_texts.specs.Reading.{Read, ◌>>=◌, prefix_of, rest_of}
use Rattle.semver_texts.specs.declared.TheConstants.{MAX_LENGTH}
use Rattle.semver_texts.specs.declared.parse.fault.Fault.{Fault}
use Rattle.semver_texts.specs.declared.parse.fault.Fault.TheVariants.{TooLarge, TooLong}
use Rattle.semver_texts.specs.Lemmas.Public.{begins-append, prefix_of-all, prefix_of-rest_of, refusal, rest_of-again}
use Rattle.semver_sets.specs.PartialText.{Partial}
use Rattle.npm_sets.specs.NpmMeaning.{is_unknown}
use Rattle.npm_sets.specs.PartialLaws.{IsRefusedByLimits}
use Rattle.npm_sets.specs.PartialLimits.{BeginsTooLarge, HasLargeNumber, IsAboveLimit, IsLongPartial, IsNpmComponent}
use Rattle.npm_sets.specs.PartialLimits.{dotted}
use Rattle.npm_sets.specs.PartialTexts.{partial_of, read_components, whole}
use Rattle.npm_sets.specs.WordTexts.{is_mark}
use Rattle.npm_sets.proofs.Partials.DottedReading.{read_as}
use Rattle.npm_sets.proofs.Partials.LargeNumbers.{missing-unknown}
use Rattle.npm_sets.proofs.Partials.LargeReading.{components-large, dotted-more, dotted-none, large-stops}
use Rattle.npm_sets.proofs.Partials.PartialReading.{component-no_mark, digit-no_mark, partial-again, partial-taken}

-- ---- a text that is refused is above a limit

large-taken : (loose : Bool) (text : List ℕ) (fault : Fault)
    → read_components loose (rest_of is_mark text) ≡ refusal fault → is_unknown fault ≡ false → HasLargeNumber loose text
large-taken loose text fault h known =
    let f = components-large loose fault known (rest_of is_mark text) h in
    record {
      marks = prefix_of is_mark text;
      before = f.before;
      rest = f.rest;
      whole = sym (prefix_of-rest_of is_mark text) ∙ ap (λ (l : List ℕ). prefix_of is_mark text ++ l) f.whole;
      all = prefix_of-all is_mark text;
      few = f.few;
      components = f.components;
      large = f.large;
    }

-- all of a text was read, and the text is too long
record IsWholeAndLong (text : List ℕ) (read : Partial × List ℕ) : Type 0 where
  pub all : read.1 ≡ []
  pub long : MAX_LENGTH < length text

whole-long : (text : List ℕ) (read : Partial × List ℕ) (fault : Fault) → whole text read ≡ Err fault
    → is_unknown fault ≡ false → IsWholeAndLong text read
whole-long text (p, []) fault h known = grind (arith, refusal)
whole-long text (p, b ∷ rest) fault h known = absurd (missing-unknown (b ∷ rest) fault h known)

limit-taken : (loose : Bool) (text : List ℕ) (read : Read Partial) (fault : Fault)
    → read_components loose (rest_of is_mark text) ≡ read → (read >>= λ r. whole text r) ≡ Err fault
    → is_unknown fault ≡ false → IsAboveLimit loose text
limit-taken loose text (Err e) fault r h known = inr (large-taken loose text fault (grind (arith, r, h)) known)
limit-taken loose text (Ok p) fault r h known =
    let w = whole-long text p fault h known in
    inl (record {
      partial = p.0;
      read = partial-taken loose text p.0 (r ∙ ap (λ (l : List ℕ). read_as p.0 l) w.all);
      long = w.long;
    })

-- ---- and a text above a limit is refused

-- with a fault that is not unknown
abbrev IsRefused : Bool → List ℕ → Type 0
IsRefused loose text = (fault : Fault) × (partial_of loose text ≡ Err fault) × (is_unknown fault ≡ false)

long-refused : (loose : Bool) (text : List ℕ) → IsLongPartial loose text → IsRefused loose text
unfolding partial_of
long-refused loose text h = (
  TooLong (length text),
  rw (partial-again loose text h.partial h.read, lt-leb (length text) MAX_LENGTH h.long) refl,
  refl,
)

-- no mark begins what follows the marks
large-no_mark : (loose : Bool) (text : List ℕ) → BeginsTooLarge loose text → BeginsWithNo is_mark text
large-no_mark loose text h = grind (arith, begins-append is_digit h.digits h.rest h.some, digit-no_mark)

before-no_mark : (loose : Bool) (before : List (List ℕ)) (rest : List ℕ)
    → AllByRecursion (λ part. (component : Option ℕ) × IsNpmComponent loose part component) before
    → BeginsTooLarge loose rest → BeginsWithNo is_mark (dotted before ++ rest)
before-no_mark loose [] rest each h = rw (dotted-none rest) (large-no_mark loose rest h)
before-no_mark loose (first ∷ before) rest each h =
    rw (dotted-more first before rest)
    (component-no_mark first (dot ∷ (dotted before ++ rest)) each.0.0 each.0.1.read)

large-refused : (loose : Bool) (text : List ℕ) → HasLargeNumber loose text → IsRefused loose text
unfolding partial_of
large-refused loose text h =
    let follows : rest_of is_mark text ≡ dotted h.before ++ h.rest =
    ap (rest_of is_mark) h.whole
    ∙ rest_of-again is_mark h.marks (dotted h.before ++ h.rest) h.all
    (before-no_mark loose h.before h.rest h.components h.large) in (
      TooLarge (length h.rest),
      rw (follows, large-stops loose h.before h.rest h.few h.components h.large) refl,
      refl,
    )

limit-refused : (loose : Bool) (text : List ℕ) → IsAboveLimit loose text → IsRefused loose text
limit-refused loose text (inl long) = long-refused loose text long
limit-refused loose text (inr large) = large-refused loose text large

refused-limit : (loose : Bool) (text : List ℕ) → IsRefused loose text → IsAboveLimit loose text
unfolding partial_of
refused-limit loose text (fault, h, known) =
    limit-taken loose text (read_components loose (rest_of is_mark text)) fault refl h known

pub refused_by_limits : (loose : Bool) (text : List ℕ) → IsRefusedByLimits loose text
refused_by_limits loose text = (refused-limit loose text, limit-refused loose text)
