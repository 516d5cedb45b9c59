-- Worked examples: which end a difference has if several sets of the other text touch one cut; and what it means to
-- have all cuts of another text.
use Rattle.std.proofs.Common.{◌≡◌, ◌≢◌, ◌↔◌, ◌∙◌, ℕ, List, [], ◌∷◌, ◌++◌, ap, arith, codes, inl, inr, refl, subst}
use Rattle.std.specs.Fmt.{digits}
use Rattle.std.specs.List.{AllByRecursion}
use Rattle.std.specs.declared.cmp.Ordering.TheVariants.{Equal}
use Rattle.semver_cuts.specs.declared.cut.Cut.{Cut}
use Rattle.semver_cuts.specs.declared.cut.Cut.TheVariants.{Before, After}
use Rattle.semver_cuts.specs.Cut.{cut_cmp}
use Rattle.semver_cuts.specs.Ends.{Ends, HoldsCut, IsInSpan}
use Rattle.semver_cuts.specs.Difference.{AreDifference, IsInDifference, IsPiece, IsPieceLower, IsPieceUpper}
use Rattle.semver_cuts.specs.Sharing.{CoversAll}
use Rattle.semver_cuts.specs.Lemmas.Ends.{at_most_trans, at_most-or-below, below-not-at_most}
use Rattle.semver_sets.specs.Comparator.{above, at_least, with_major, with_minor}
use Rattle.semver_texts.specs.Comparison.{version_cmp}
use Rattle.semver_texts.specs.IdentifierValue.{alphanumeric}
use Rattle.semver_texts.specs.Lemmas.Public.{version_total}
use Rattle.semver_texts.specs.Version.{VersionValue, least_of, release}
use Rattle.semver_sets.proofs.Examples.SetComputing.{Sets, merged-by, sets_in}
use Rattle.semver_sets.proofs.Examples.SetExamples.{from_to}
use Rattle.node_semver.specs.Least.{build_at}
use Rattle.node_semver.specs.SetTree.{of_text, without}
use Rattle.node_semver.proofs.Examples.AlgebraExamples.{GivesPrint}

-- ---- one piece

-- a set that has exactly the remaining cuts is the difference
one-piece : (others : Sets) (one piece : Ends VersionValue) → HoldsCut version_cmp piece
    → ((cut : Cut VersionValue) → IsInSpan version_cmp piece cut ↔ IsInDifference version_cmp others one cut)
    → IsPieceLower version_cmp others one piece.lower → IsPieceUpper version_cmp others one piece.upper
    → AreDifference version_cmp (one ∷ []) others (piece ∷ [])
one-piece others one piece holds same lower upper = (
  piece ∷ [],
  [],
  refl,
  record {
    each = (
      record {
        holds = holds;
        left = λ cut inside. (same cut).0 inside;
        greatest = λ wider left within cut inside. (same cut).1 (left cut inside);
        lower = lower;
        upper = upper;
      },
      tt,
    );
    ascending = tt;
    all = λ cut left. inl ((same cut).1 left);
  },
  refl,
)

-- and a set that is left of one alone is a piece of that
has-piece : (P : Ends VersionValue → Type 0) (pieces later : Sets) (piece : Ends VersionValue)
    → piece ∷ [] ≡ pieces ++ later → later ≡ [] → AllByRecursion P pieces → P piece
has-piece P [] later piece parts none all = let nothing : piece ∷ [] ≡ [] = parts ∙ none in cc nothing
has-piece P (first ∷ pieces) later piece parts none all = let same : first ≡ piece = cc parts in subst P same all.0

-- `2.0.0+a`
abbrev built : List ℕ → VersionValue
built text = record (release 2 0 0) { build = alphanumeric text ∷ [] }

abbrev one_build : VersionValue
one_build = built (codes "a")

abbrev other_build : VersionValue
other_build = built (codes "b")

-- builds tell the two apart
builds-apart : (one other : Cut VersionValue) → build_at one ≡ alphanumeric (codes "a") ∷ []
    → build_at other ≡ alphanumeric (codes "b") ∷ [] → one ≢ other
builds-apart one other is is' same =
    let letters : ◌≡◌ {A = ℕ} 97 98 = cc (is, is', ap build_at same) in absurd (omega arith)

-- ---- a lower end: `>=1` less `1.0.0 - 2.0.0+a || 1.5.0 - 2.0.0+b`

abbrev ending : Sets
ending = from_to (release 1 0 0) one_build ∷ from_to (release 1 5 0) other_build ∷ []

above-cuts : (cut : Cut VersionValue) → IsInSpan version_cmp (above one_build) cut
    ↔ IsInDifference version_cmp ending (at_least (release 1 0 0)) cut
above-cuts cut = (
  λ inside. (
    record {
      lower = at_most_trans version_total (Before (release 1 0 0)) (After one_build) cut (inl refl) inside.lower;
      upper = inside.upper;
    },
    λ some. elim some [
      | inl first ↦ below-not-at_most version_total cut (After one_build) first.upper inside.lower
      | inr more ↦ elim more [
        | inl second ↦ below-not-at_most version_total cut (After other_build) second.upper
            (at_most_trans version_total (After other_build) (After one_build) cut (inr refl) inside.lower)
        | inr none ↦ none
      ]
    ],
  ),
  λ left. record {
    lower = elim (at_most-or-below version_total (After one_build) cut) [
      | inl past ↦ past
      | inr early ↦ absurd (left.1 (inl (record { lower = left.0.lower; upper = early })))
    ];
    upper = left.0.upper;
  },
)

-- it is `>2.0.0+a`
above-first : AreDifference version_cmp (at_least (release 1 0 0) ∷ []) ending (above one_build ∷ [])
above-first =
    one-piece ending (at_least (release 1 0 0)) (above one_build)
    (After one_build, record { lower = inr refl; upper = refl }) above-cuts
    (inr (
      refl,
      record {
        before = [];
        span = from_to (release 1 0 0) one_build;
        after = from_to (release 1 5 0) other_build ∷ [];
        parts = refl;
        end_of = refl;
        earlier = tt;
        later = (tt, tt);
      },
    ))
    (inl refl)

pub above-print : GivesPrint (without (of_text (codes ">=1")) (of_text (codes "1.0.0 - 2.0.0+a || 1.5.0 - 2.0.0+b")))
    (codes ">2.0.0+a")
unfolding sets_in digits
above-print = (
  above one_build ∷ [],
  inr (at_least (release 1 0 0) ∷ [], ending, merged-by _ _ refl, merged-by _ _ refl, above-first),
  refl,
)

not_first-ending : (before after : Sets) (span : Ends VersionValue) → ending ≡ before ++ span ∷ after
    → span.upper ≡ After other_build
    → AllByRecursion (λ (s : Ends VersionValue). ¬ (cut_cmp version_cmp s.upper (After other_build) ≡ Equal)) before → ⊥
not_first-ending [] after span parts end_of earlier =
    let first : from_to (release 1 0 0) one_build ≡ span = cc parts in
    builds-apart (After one_build) (After other_build) refl refl
    (ap (λ (s : Ends VersionValue). s.upper) first ∙ end_of)
not_first-ending (first ∷ before) after span parts end_of earlier =
    let is : from_to (release 1 0 0) one_build ≡ first = cc parts in
    earlier.0 (subst (λ (s : Ends VersionValue). cut_cmp version_cmp s.upper (After other_build) ≡ Equal) is refl)

-- and not `>2.0.0+b`
pub above-second : ¬ AreDifference version_cmp (at_least (release 1 0 0) ∷ []) ending (above other_build ∷ [])
above-second are =
    let piece : IsPiece version_cmp ending (at_least (release 1 0 0)) (above other_build) =
    has-piece (IsPiece version_cmp ending (at_least (release 1 0 0))) are.0 are.1 (above other_build) are.2 are.4
    are.3.each in
    elim piece.lower [
      | inl own ↦ cc own
      | inr inner ↦ not_first-ending inner.1.before inner.1.after inner.1.span
          inner.1.parts inner.1.end_of inner.1.earlier
    ]

-- ---- an upper end: `<=3.0.0` less `2.0.0+a - 3.0.0 || 2.0.0+b - 2.5.0`

-- ---- all cuts of another text

-- `>=1.2.3` has all cuts of a set of `0.1 || 1.4`, and not of each
pub covers-not_some : ¬ CoversAll version_cmp (at_least (release 1 2 3) ∷ []) (with_minor 0 1 ∷ with_minor 1 4 ∷ [])
covers-not_some covers = elim (covers (Before (release 0 1 0)) (inl (record { lower = inr refl; upper = refl }))) [
  | inl inside ↦ elim inside.lower [ inl less ↦ cc less | inr same ↦ cc same ]
  | inr none ↦ none
]

-- no set of `1 || >=2.0.0-0` has all cuts of `>=1.5.0`, and both together have
pub covers-together : CoversAll version_cmp (with_major 1 ∷ at_least (least_of 2 0 0) ∷ [])
    (at_least (release 1 5 0) ∷ [])
covers-together cut is = elim is [
  | inl inside ↦ elim (at_most-or-below version_total (Before (least_of 2 0 0)) cut) [
    | inl past ↦ inr (inl (record { lower = past; upper = inside.upper }))
    | inr early ↦ inl (record {
      lower = at_most_trans version_total (Before (release 1 0 0)) (Before (release 1 5 0)) cut (inl refl) inside.lower;
      upper = early;
    })
  ]
  | inr none ↦ absurd none
]

-- `1 || 2` has not the cut of `1.5.0 - 2.5.0` between its sets
pub covers-not_between : ¬ CoversAll version_cmp (with_major 1 ∷ with_major 2 ∷ [])
    (from_to (release 1 5 0) (release 2 5 0) ∷ [])
covers-not_between covers = elim (covers (Before (least_of 2 0 0)) (inl (record { lower = inl refl; upper = refl }))) [
  | inl first ↦ cc first.upper
  | inr more ↦ elim more [
    | inl second ↦ elim second.lower [ inl less ↦ cc less | inr same ↦ cc same ]
    | inr none ↦ none
  ]
]
