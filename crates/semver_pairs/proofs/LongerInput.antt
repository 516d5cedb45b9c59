-- What was answered stays so as the input goes on.
use Rattle.std.proofs.Common.{◌≡◌, ℕ, List, [], ◌∷◌, ◌++◌, ◌==◌, Bool, true, false, if◌then◌else◌, ap, refl, subst, sym}
use Rattle.std.proofs.Common.{◌∙◌, append_assoc}
use Rattle.std.specs.Prelude.{map}
use Rattle.std.specs.Str.Lines.{strip_carriage_return}
use Rattle.std.proofs.lemmas.List.{map-append}
use Rattle.semver_texts.specs.Characters.{newline}
use Rattle.semver_pairs.specs.Lines.{Lines, divided, rest_line, with_byte, with_line}
use Rattle.semver_pairs.specs.Output.{AreAnswers, BeginsAnswers}
use Rattle.semver_pairs.specs.Pairs.{Pair, both, lines_read, pairs_of, pairs_read}
use Rattle.semver_pairs.proofs.AnswerLemmas.{answers-exist}

-- the first list begins the other
abbrev Begins : {X : Type 0} → List X → List X → Type 0
Begins {X} first all = (rest : List X) × (all ≡ first ++ rest)

-- ---- lines

with_byte-begins : (b : ℕ) (fewer : List (List ℕ)) (rest : List ℕ) (more : Lines) → Begins fewer more.ended
    → Begins (with_byte b fewer rest).ended (with_byte b more.ended more.rest).ended
with_byte-begins b [] rest more begins = ((with_byte b more.ended more.rest).ended, refl)
with_byte-begins b (line ∷ lines) rest more begins =
    (begins.0, ap (λ (l : List (List ℕ)). (with_byte b l more.rest).ended) begins.1)

byte-begins : (b : ℕ) (test : Bool) (fewer more : Lines) → Begins fewer.ended more.ended
    → Begins (if test then with_line [] fewer else with_byte b fewer.ended fewer.rest).ended
    (if test then with_line [] more else with_byte b more.ended more.rest).ended
byte-begins b true fewer more begins = (begins.0, ap (λ (l : List (List ℕ)). [] ∷ l) begins.1)
byte-begins b false fewer more begins = with_byte-begins b fewer.ended fewer.rest more begins

ended-begins : (bytes more : List ℕ) → Begins (divided bytes).ended (divided (bytes ++ more)).ended
ended-begins [] more = ((divided more).ended, refl)
ended-begins (b ∷ bytes) more = byte-begins b (b == newline) (divided bytes) (divided (bytes ++ more))
    (ended-begins bytes more)

ended_lines-begin : (bytes more : List ℕ) → Begins (lines_read false bytes) (lines_read false (bytes ++ more))
ended_lines-begin bytes more =
    let ended = ended-begins bytes more in (
      map strip_carriage_return ended.0,
      ap (map strip_carriage_return) ended.1
          ∙ map-append strip_carriage_return (divided bytes).ended ended.0,
    )

lines-begin : (is_end : Bool) (bytes more : List ℕ)
    → Begins (lines_read false bytes) (lines_read is_end (bytes ++ more))
lines-begin false bytes more = ended_lines-begin bytes more
lines-begin true bytes more =
    let lines = ended_lines-begin bytes more in
    let last = rest_line (divided (bytes ++ more)).rest in (
      lines.0 ++ last,
      ap (λ (l : List (List ℕ)). l ++ last) lines.1 ∙ append_assoc (lines_read false bytes) lines.0
          last,
    )

-- ---- pairs

pairs-begin : (is_end : Bool) (lines more : List (List ℕ))
    → Begins (pairs_of false lines) (pairs_of is_end (lines ++ more))
pairs-begin is_end [] more = (pairs_of is_end more, refl)
pairs-begin is_end (line ∷ []) more = (pairs_of is_end (line ∷ more), refl)
pairs-begin false (range ∷ version ∷ lines) more =
    let others = pairs-begin false lines more in
    (others.0, ap (λ (l : List Pair). both range version ∷ l) others.1)
pairs-begin true (range ∷ version ∷ lines) more =
    let others = pairs-begin true lines more in
    (others.0, ap (λ (l : List Pair). both range version ∷ l) others.1)

read-begins : (is_end : Bool) (bytes more : List ℕ)
    → Begins (pairs_read false bytes) (pairs_read is_end (bytes ++ more))
read-begins is_end bytes more =
    let lines = lines-begin is_end bytes more in
    let pairs = pairs-begin is_end (lines_read false bytes) lines.0 in
    (pairs.0, ap (pairs_of is_end) lines.1 ∙ pairs.1)

-- ---- output

answers-then : (pairs others : List Pair) (written rest : List ℕ) → AreAnswers pairs written → AreAnswers others rest
    → AreAnswers (pairs ++ others) (written ++ rest)
answers-then [] others written rest none last =
    subst (λ (l : List ℕ). AreAnswers others (l ++ rest)) (sym none) last
answers-then (pair ∷ pairs) others written rest (answer, later, first, more, is) last = (
  answer,
  later ++ rest,
  first,
  answers-then pairs others later rest more last,
  ap (λ (l : List ℕ). l ++ rest) is ∙ append_assoc answer (newline ∷ later) rest,
)

-- the output for the complete pairs is the beginning of the output for any longer input
pub answers-stay : (is_end : Bool) (bytes more written : List ℕ) → AreAnswers (pairs_read false bytes) written
    → BeginsAnswers (pairs_read is_end (bytes ++ more)) written
answers-stay is_end bytes more written answers =
    let begins = read-begins is_end bytes more in
    let rest = answers-exist begins.0 in (
      rest.0,
      subst (λ (pairs : List Pair). AreAnswers pairs (written ++ rest.0)) (sym begins.1)
          (answers-then (pairs_read false bytes) begins.0 written rest.0 answers rest.1),
    )
