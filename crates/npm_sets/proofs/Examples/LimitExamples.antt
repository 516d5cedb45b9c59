-- Worked examples: which texts are above the limits of partials, so that they refuse a range text in both forms. Each row is
-- computed by the reader, and means what it says by the law that reader and definition agree.
use Rattle.std.proofs.Common.{◌≡◌, ℕ, Bool, true, false, List, [], ◌∷◌, Ok, Err, map, refl, codes, ap}
use Rattle.std.proofs.Common.{◌∙◌, sym}
use Rattle.std.specs.Prelude.{Result, not}
use Rattle.std.specs.List.{AllByRecursion}
use Rattle.semver_texts.specs.Reading.{list_prefix, list_rest, prefix_of, read_build, read_extras, read_number}
use Rattle.semver_texts.specs.Reading.{read_prerelease, rest_of, skip_one, skip_plus}
use Rattle.semver_sets.specs.PartialText.{Partial}
use Rattle.semver_texts.specs.declared.parse.fault.Fault.{Fault}
use Rattle.npm_sets.specs.NpmMeaning.{is_unknown}
use Rattle.npm_sets.specs.PartialLimits.{IsAboveLimit}
use Rattle.npm_sets.specs.PartialTexts.{has_none_padded, partial_of}
use Rattle.npm_sets.proofs.Partials.LimitReading.{refused_by_limits}

-- `true` if a text with this reading refuses the range text in both forms
abbrev is_refused : Result Partial Fault → Bool
is_refused (Ok p) = false
is_refused (Err fault) = not (is_unknown fault)

-- a text, and whether it is above a limit
abbrev LimitRow : Type 0
LimitRow = List ℕ × Bool

abbrev AreLimitsComputed : Bool → List LimitRow → Type 0
AreLimitsComputed loose rows =
    map (λ (row : LimitRow). is_refused (partial_of loose row.0)) rows ≡ map (λ (row : LimitRow). row.1) rows

abbrev IsLimitedAs : Bool → List ℕ → Bool → Type 0
IsLimitedAs loose text true = IsAboveLimit loose text
IsLimitedAs loose text false = ¬ IsAboveLimit loose text

abbrev AreLimited : Bool → List LimitRow → Type 0
AreLimited loose rows = AllByRecursion (λ (row : LimitRow). IsLimitedAs loose row.0 row.1) rows

refused-fault : (result : Result Partial Fault) → is_refused result ≡ true
    → (fault : Fault) × (result ≡ Err fault) × (is_unknown fault ≡ false)
refused-fault (Ok p) h = cc h
refused-fault (Err fault) h = (fault, refl, not-true (is_unknown fault) h)
  where
    not-true : (b : Bool) → not b ≡ true → b ≡ false
    not-true true h = cc h
    not-true false h = refl

limit-row : (loose : Bool) (text : List ℕ) (says : Bool) → is_refused (partial_of loose text) ≡ says
    → IsLimitedAs loose text says
limit-row loose text true h = (refused_by_limits loose text).0 (refused-fault (partial_of loose text) h)
limit-row loose text false h = λ above.
    let r = (refused_by_limits loose text).1 above in
    cc (sym (ap is_refused r.1 ∙ ap not r.2) ∙ h)

all-limited : (loose : Bool) (rows : List LimitRow) → AreLimitsComputed loose rows → AreLimited loose rows
all-limited loose [] h = tt
all-limited loose (row ∷ rows) h = (limit-row loose row.0 row.1 (cc h), all-limited loose rows (cc h))

abbrev limit_rows : List LimitRow
limit_rows =
    (codes "9007199254740992", true)
    ∷ (codes "v1.09007199254740992.foo", true)
    ∷ (codes "=x.x.9007199254740992-", true)
    ∷ (codes "9007199254740991", false)
    ∷ (codes "1.2.3-9007199254740992", false)
    ∷ (codes "1.2.3.9007199254740992", false)
    ∷ (codes "foo9007199254740992", false)
    ∷ (codes "1..9007199254740992", false)
    ∷ []

limits-computed : AreLimitsComputed true limit_rows
unfolding partial_of prefix_of rest_of read_number read_extras read_prerelease read_build list_prefix list_rest skip_one
    skip_plus has_none_padded
limits-computed = refl

pub limits-written : AreLimited true limit_rows
limits-written = all-limited true limit_rows limits-computed
