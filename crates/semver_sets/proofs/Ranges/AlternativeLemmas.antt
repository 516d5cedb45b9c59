-- Range texts: each has exactly one list of alternatives, and is read alternative by alternative.
use Rattle.std.proofs.Common.{◌≡◌, ◌<◌, ℕ, zero, suc, List, [], ◌∷◌, ◌++◌, length, Option, Some, None, append_assoc}
use Rattle.std.proofs.Common.{arith, refl, sym, subst}
use Rattle.std.proofs.lemmas.List.{append-nil}
use Rattle.semver_texts.specs.Characters.{is_blank}
use Rattle.semver_sets.specs.Comparator.{Comparator}
use Rattle.semver_sets.specs.Division.{AreAlternatives, AreLaterAlternatives, IsAlternative, IsLaterAlternative}
use Rattle.semver_sets.specs.Division.{IsPieces, IsWritten}
use Rattle.semver_sets.specs.Private.PieceReading.{piece_at}
use Rattle.semver_texts.specs.Reading.{rest_of}
use Rattle.semver_sets.proofs.Ranges.DivisionLemmas.{alternative-exists, alternative-unique}
use Rattle.semver_sets.proofs.Ranges.PieceLemmas.{before-more, piece-first, piece-last, piece-shorter, pieces-exist}
use Rattle.semver_sets.proofs.Ranges.PieceLemmas.{pieces-unique}
use Rattle.semver_texts.specs.Lemmas.Public.{prefix_of-all, prefix_of-rest_of, rest_of-again, rest_of-no}

-- ---- a piece after the first

-- the alternative that is read after the blanks
pub later-from : (piece : List ℕ) (a : List Comparator) → IsAlternative (rest_of is_blank piece) a
    → IsLaterAlternative piece a
later-from piece a alternative =
    grind (arith, prefix_of-rest_of is_blank piece, prefix_of-all is_blank piece, rest_of-no is_blank piece)

-- and nothing else
from-later : (piece : List ℕ) (a : List Comparator) → IsLaterAlternative piece a
    → IsAlternative (rest_of is_blank piece) a
from-later piece a later = grind (arith, rest_of-again)

laters-exist : (pieces : List (List ℕ))
    → (alternatives : List (List Comparator)) × AreLaterAlternatives pieces alternatives
laters-exist [] = ([], tt)
laters-exist (piece ∷ pieces) =
    let a = alternative-exists (rest_of is_blank piece) in
    let more = laters-exist pieces in
    (a.0 ∷ more.0, (later-from piece a.0 a.1, more.1))

laters-unique : (pieces : List (List ℕ)) (one other : List (List Comparator)) → AreLaterAlternatives pieces one
    → AreLaterAlternatives pieces other → one ≡ other
laters-unique [] [] [] x y = refl
laters-unique [] [] (b ∷ other) x y = absurd y
laters-unique [] (a ∷ one) other x y = absurd x
laters-unique (piece ∷ pieces) [] other x y = absurd x
laters-unique (piece ∷ pieces) (a ∷ one) [] x y = absurd y
laters-unique (piece ∷ pieces) (a ∷ one) (b ∷ other) x y =
    grind (
      arith,
      alternative-unique (rest_of is_blank piece) a b (from-later piece a x.0) (from-later piece b y.0),
      laters-unique pieces one other x.1 y.1,
    )

-- ---- a text writes one list of alternatives

exists-in : (text : List ℕ) (pieces : List (List ℕ)) → IsPieces text pieces
    → (alternatives : List (List Comparator)) × IsWritten text alternatives
exists-in text [] d = absurd d
exists-in text (piece ∷ pieces) d =
    let first = alternative-exists piece in
    let more = laters-exist pieces in
    (first.0 ∷ more.0, record { pieces = piece ∷ pieces; divided = d; read = (first.1, more.1) })

pub written-exists : (text : List ℕ) → (alternatives : List (List Comparator)) × IsWritten text alternatives
written-exists text = grind (arith, pieces-exist text, exists-in)

alternatives-unique : (pieces : List (List ℕ)) (one other : List (List Comparator)) → AreAlternatives pieces one
    → AreAlternatives pieces other → one ≡ other
alternatives-unique [] one other x y = absurd x
alternatives-unique (piece ∷ pieces) [] other x y = absurd x
alternatives-unique (piece ∷ pieces) (a ∷ one) [] x y = absurd y
alternatives-unique (piece ∷ pieces) (a ∷ one) (b ∷ other) x y = grind
    (arith, alternative-unique piece a b x.0 y.0, laters-unique pieces one other x.1 y.1)

pub written-unique : (text : List ℕ) (one other : List (List Comparator)) → IsWritten text one → IsWritten text other
    → one ≡ other
written-unique text one other w x = grind (arith, pieces-unique, alternatives-unique)

-- ---- a text read alternative by alternative

-- the alternatives of what follows `||`, or of nothing where no `||` is left
abbrev pub AreLeft : Option (List ℕ) → List (List Comparator) → Type 0
AreLeft None alternatives = alternatives ≡ []
AreLeft (Some rest) alternatives = (pieces : List (List ℕ)) × IsPieces rest pieces
    × AreLaterAlternatives pieces alternatives

-- These alternatives come first: whatever alternatives are left, the text has these and then those.
pub record Reads (text : List ℕ) (done : List (List Comparator)) (left : Option (List ℕ)) : Type 0 where
  pub whole : (later : List (List Comparator)) → AreLeft left later → IsWritten text (done ++ later)

-- the first piece is read with its blanks
pub reads-start : (text piece : List ℕ) (left : Option (List ℕ)) (a : List Comparator) → piece_at text ≡ (piece, left)
    → IsAlternative piece a → Reads text (a ∷ []) left
reads-start text piece None a read alternative = record {
  whole = λ later none. record {
    pieces = piece ∷ [];
    divided = piece-last text piece read;
    read = (alternative, subst (AreLaterAlternatives []) (sym none) tt);
  };
}
reads-start text piece (Some rest) a read alternative = record {
  whole = λ later more. record {
    pieces = piece ∷ more.0;
    divided = before-more text piece rest more.0 (piece-first text piece rest read) more.1;
    read = (alternative, more.2);
  };
}

-- the remaining text, with a piece before it
pub left-more : (rest piece : List ℕ) (left : Option (List ℕ)) (a : List Comparator) (later : List (List Comparator))
    → piece_at rest ≡ (piece, left) → IsAlternative (rest_of is_blank piece) a
    → AreLeft left later → AreLeft (Some rest) (a ∷ later)
left-more rest piece None a later read alternative none =
    let nothing : AreLaterAlternatives [] later = subst (AreLaterAlternatives []) (sym none) tt in
    (piece ∷ [], piece-last rest piece read, (later-from piece a alternative, nothing))
left-more rest piece (Some behind) a later read alternative more =
    let first = piece-first rest piece behind read in
    (piece ∷ more.0, before-more rest piece behind more.0 first more.1, (later-from piece a alternative, more.2))

-- one more piece is read, without the blanks with which it begins
pub reads-more : (text : List ℕ) (done : List (List Comparator)) (rest piece : List ℕ) (left : Option (List ℕ))
    (a : List Comparator)
    → Reads text done (Some rest) → piece_at rest ≡ (piece, left) → IsAlternative (rest_of is_blank piece) a
    → Reads text (done ++ (a ∷ [])) left
reads-more text done rest piece left a reads read alternative = record {
  whole = λ later more.
      let left = left-more rest piece left a later read alternative more in grind (arith, append_assoc);
}

-- all pieces are read
pub reads-end : (text : List ℕ) (done : List (List Comparator)) → Reads text done None → IsWritten text done
reads-end text done reads = subst (IsWritten text) (append-nil done) (reads.whole [] refl)

-- how much is left
abbrev pub left_length : Option (List ℕ) → ℕ
left_length None = zero
left_length (Some rest) = suc (length rest)

-- less is left then
pub left-shorter : (rest piece : List ℕ) (left : Option (List ℕ)) → piece_at rest ≡ (piece, left)
    → left_length left < left_length (Some rest)
left-shorter rest piece None read = omega arith
left-shorter rest piece (Some behind) read =
    grind (arith, piece-shorter rest piece behind (piece-first rest piece behind read))
