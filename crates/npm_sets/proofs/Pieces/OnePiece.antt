-- A text without `||`: its only piece, and the set that it gives.
use Rattle.std.proofs.Common.{◌≡◌, ◌∙◌, ℕ, Bool, true, false, List, [], ◌∷◌, Option, Some, None, ap, refl, sym}
use Rattle.semver_cuts.specs.Ends.{Ends}
use Rattle.semver_texts.specs.Version.{VersionValue}
use Rattle.semver_sets.specs.Comparator.{Comparator}
use Rattle.semver_sets.specs.Division.{HasBars}
use Rattle.semver_sets.specs.Merging.{IsSpanOf}
use Rattle.semver_sets.specs.declared.set_list.Sets.TheVariants.{One}
use Rattle.npm_sets.specs.NpmMeaning.{IsNpmRefused, or_no_alternatives, piece_comparators, with_piece}
use Rattle.npm_sets.specs.Private.ReadViews.{AreRead, IsAdded}
use Rattle.npm_sets.specs.Rows.{no_versions}
use Rattle.npm_sets.specs.declared.options.NpmOptions.{NpmOptions}
use Rattle.npm_sets.proofs.Pieces.PieceReading.{none-added, set-added}
use Rattle.npm_sets.proofs.Pieces.TextReading.{IsResult, PiecesSoFar, first-of, left_alternatives, none-gathered}
use Rattle.npm_sets.proofs.Pieces.TextReading.{none-some, pieces-found, pieces-refused, pieces-start}
use Rattle.npm_sets.proofs.Pieces.TextReading.{some-gathered}

module _ (options : NpmOptions) (text : List ℕ) (free : ¬ HasBars text) where
  first : left_alternatives options (Some text)
      ≡ with_piece (piece_comparators options text) (left_alternatives options None)
  first = first-of options text text None tt (refl, free)

  start : PiecesSoFar options text (Some text) [] false
  start = pieces-start options text (Some text) [] refl refl

  found-so : (found : Bool) (sets : List (Ends VersionValue)) → found ≡ true
      → IsAdded (piece_comparators options text) [] sets found → PiecesSoFar options text None sets true
  found-so found sets is added = pieces-found options text text text None [] sets false found start first added is

  -- its comparators share a cut
  pub one-given : (common : Option Comparator) (found : Bool) (set : Ends VersionValue)
      → AreRead (piece_comparators options text) common found → found ≡ true → IsSpanOf common (Some set)
      → IsResult options text (set ∷ [])
  one-given common found set read is span =
      some-gathered options text None (set ∷ []) true (Some (One set)) (One set)
      (found-so found (set ∷ []) is
      (set-added (piece_comparators options text) common found set [] (set ∷ []) read span refl)) refl refl refl
      (λ none. cc none) refl

  -- or none
  pub one-crossed : (common : Option Comparator) (found : Bool) (none : Ends VersionValue)
      → AreRead (piece_comparators options text) common found → found ≡ true → IsSpanOf common None → none ≡ no_versions
      → IsResult options text (none ∷ [])
  one-crossed common found none read is span alone =
      none-gathered options text None [] (none ∷ []) true None
      (found-so found [] is (none-added (piece_comparators options text) common found [] read span)) refl refl refl refl
      (ap (λ (s : Ends VersionValue). s ∷ []) alone)

  -- no word is a comparator
  pub one-passed : (common : Option Comparator) (found : Bool) → AreRead (piece_comparators options text) common found
      → found ≡ false → IsNpmRefused options text
  one-passed common found read is =
      let empty : read.comparators ≡ [] = none-some read.comparators (sym is ∙ read.found_is) in
      ap or_no_alternatives
      (first ∙ ap (λ (v : Option (List Comparator)). with_piece v (Some [])) (read.value_is ∙ ap Some empty))

  -- a word refuses the text
  pub one-refused : piece_comparators options text ≡ None → IsNpmRefused options text
  one-refused refused = pieces-refused options text text text None [] false start first refused
