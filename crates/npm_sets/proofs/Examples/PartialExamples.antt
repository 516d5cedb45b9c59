-- Worked examples: which texts the grammar of partials has, and as which partial. Each row is computed by the reader,
-- and means what it says by the law that reader and grammar agree.
use Rattle.std.proofs.Common.{◌≡◌, ℕ, Bool, true, false, List, [], ◌∷◌, Option, Some, None, Ok, Err, map, refl, codes, ap}
use Rattle.std.proofs.Common.{◌∙◌, arith, sym}
use Rattle.std.proofs.lemmas.Option.{same_Some}
use Rattle.std.specs.List.{AllByRecursion}
use Rattle.semver_texts.specs.IdentifierValue.{IdentifierValue, alphanumeric, numeric}
use Rattle.semver_texts.specs.Reading.{Read, list_prefix, list_rest, prefix_of, read_build, read_extras, read_number}
use Rattle.semver_texts.specs.Reading.{read_prerelease, rest_of, skip_one, skip_plus}
use Rattle.semver_sets.specs.PartialText.{Partial, plain_partial, two}
use Rattle.npm_sets.specs.PartialGrammar.{IsNpmPartialText}
use Rattle.npm_sets.specs.PartialTexts.{has_none_padded, read_components}
use Rattle.npm_sets.specs.WordTexts.{is_mark}
use Rattle.npm_sets.proofs.Partials.DottedReading.{read_as}
use Rattle.npm_sets.proofs.Partials.PartialReading.{partial-again, partial-taken}

-- the partial, if nothing is left
abbrev whole_partial : Read Partial → Option Partial
whole_partial (Err fault) = None
whole_partial (Ok (p, [])) = Some p
whole_partial (Ok (p, b ∷ rest)) = None

-- a text, and the partial that it is, if it is one
abbrev Row : Type 0
Row = List ℕ × Option Partial

abbrev AreComputed : Bool → List Row → Type 0
AreComputed loose rows =
    map (λ (row : Row). whole_partial (read_components loose (rest_of is_mark row.0))) rows
    ≡ map (λ (row : Row). row.1) rows

-- the grammar has the text as this partial, or as none
abbrev IsWrittenAs : Bool → List ℕ → Option Partial → Type 0
IsWrittenAs loose text None = (p : Partial) → ¬ IsNpmPartialText loose text p
IsWrittenAs loose text (Some p) = IsNpmPartialText loose text p

abbrev AreWritten : Bool → List Row → Type 0
AreWritten loose rows = AllByRecursion (λ (row : Row). IsWrittenAs loose row.0 row.1) rows

whole-read : (read : Read Partial) (p : Partial) → whole_partial read ≡ Some p → read ≡ read_as p []
whole-read (Err fault) p h = cc h
whole-read (Ok (q, [])) p h = ap (λ (r : Partial). read_as r []) (same_Some q p h)
whole-read (Ok (q, b ∷ rest)) p h = cc h

row-written : (loose : Bool) (text : List ℕ) (says : Option Partial)
    → whole_partial (read_components loose (rest_of is_mark text)) ≡ says → IsWrittenAs loose text says
row-written loose text None h = λ p is. cc (sym (ap whole_partial (partial-again loose text p is)) ∙ h)
row-written loose text (Some p) h = partial-taken loose text p (whole-read _ p h)

all-written : (loose : Bool) (rows : List Row) → AreComputed loose rows → AreWritten loose rows
all-written loose [] h = tt
all-written loose (row ∷ rows) h = (row-written loose row.0 row.1 (cc h), all-written loose rows (cc h))

-- ---- strict form

abbrev one_two_three : List IdentifierValue → List IdentifierValue → Partial
one_two_three prerelease build =
    record (plain_partial (Some 1) (Some 2) (Some 3)) { pre_release = prerelease; build = build }

abbrev strict_rows : List Row
strict_rows =
    (codes "1", Some (plain_partial (Some 1) None None))
    ∷ (codes "v1.x", Some (plain_partial (Some 1) None None))
    ∷ (codes "=v=1.2", Some (plain_partial (Some 1) (Some 2) None))
    ∷ (codes "*.2.X", Some (plain_partial None (Some 2) None))
    ∷ (
      codes "=1.2.3-beta.1+5",
      Some (one_two_three (alphanumeric (codes "beta") ∷ numeric 1 ∷ []) (numeric 5 ∷ [])),
    )
    ∷ (codes "1.2.3+01", Some (one_two_three [] (numeric 1 ∷ [])))
    ∷ (codes "1.2.3-01a", Some (one_two_three (alphanumeric (codes "01a") ∷ []) []))
    ∷ (codes "1.2.3--", Some (one_two_three (alphanumeric (codes "-") ∷ []) []))
    ∷ (codes "0.0.0", Some (plain_partial (Some 0) (Some 0) (Some 0)))
    ∷ (codes "", None)
    ∷ (codes "v", None)
    ∷ (codes "01.2.3", None)
    ∷ (codes "1.2.3-01", None)
    ∷ (codes "1.2.3-a.00", None)
    ∷ (codes "1.2.3-", None)
    ∷ (codes "1.2.3+", None)
    ∷ (codes "1.2.3beta", None)
    ∷ (codes "1.2-beta", None)
    ∷ (codes "1..2", None)
    ∷ (codes "1.", None)
    ∷ (codes "1.2.3.4", None)
    ∷ (codes "1.2.xx", None)
    ∷ (codes "9007199254740992", None)
    ∷ []

strict-computed : AreComputed false strict_rows
unfolding prefix_of rest_of read_number read_extras read_prerelease read_build list_prefix list_rest skip_one skip_plus
    has_none_padded
strict-computed = refl

pub strict-written : AreWritten false strict_rows
strict-written = all-written false strict_rows strict-computed

-- ---- loose form

abbrev loose_rows : List Row
loose_rows =
    (codes "01.2.3", Some (one_two_three [] []))
    ∷ (codes "1.2.3beta", Some (one_two_three (alphanumeric (codes "beta") ∷ []) []))
    ∷ (codes "1.2.3-01+5", Some (one_two_three (numeric 1 ∷ []) (numeric 5 ∷ [])))
    ∷ (codes "1.2.x3", Some (record (plain_partial (Some 1) (Some 2) None) { pre_release = numeric 3 ∷ [] }))
    ∷ (codes "1.2.34", Some (plain_partial (Some 1) (Some 2) (Some 34)))
    ∷ (codes "1.2.3-", None)
    ∷ (codes "1.2beta", None)
    ∷ (codes "1..2", None)
    ∷ []

loose-computed : AreComputed true loose_rows
unfolding prefix_of rest_of read_number read_extras read_prerelease read_build list_prefix list_rest skip_one skip_plus
    has_none_padded
loose-computed = refl

pub loose-written : AreWritten true loose_rows
loose-written = all-written true loose_rows loose-computed

-- ---- by hand

-- `v1.x` is of the grammar
by_hand : IsNpmPartialText false (codes "v1.x") (plain_partial (Some 1) None None)
by_hand = record {
  marks = codes "v";
  unmarked = codes "1.x";
  whole = refl;
  all = refl;
  components = two (Some 1) None refl (record {
    first = codes "1";
    second = codes "x";
    whole = refl;
    major_text = record { some = refl; digits = refl; value = refl; limit = omega arith };
    minor_text = (120, refl, refl);
  });
  strict = λ form. (refl, refl);
}
