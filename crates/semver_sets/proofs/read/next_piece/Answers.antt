use Rattle.std.proofs.Common.{◌≡◌, ◌∙◌, ◌+◌, ◌-◌, ◌<◌, ◌≤◌, ℕ, List, ap, arith, drop, length}
use Rattle.std.proofs.Common.{take}
use borrow.Author.Tests.{ltb-true}
use Rattle.std.proofs.lemmas.List.{length-drop, take_rest}
use Rattle.memchr.specs.Find.{NoneBefore, Nowhere, Passes, is_byte}
use Rattle.semver_texts.specs.Characters.{bar}
use Rattle.semver_sets.specs.Private.PieceReading.{bars_after}
use Rattle.semver_sets.proofs.Ranges.PieceLemmas.{Passed, not-bars, pass-to_bar, passed-end, seen-step}
use Rattle.semver_sets.proofs.Ranges.PieceLemmas.{seen-stop, two-bars}
use Rattle.semver_sets.proofs.read.next_piece.Goals as goal
use Rattle.semver_sets.proofs.read.next_piece.Goals.{else-text-bar-lt2+in-124+in_default-1}
use Rattle.semver_sets.proofs.read.next_piece.Goals.{else-text-bar-lt2+in_default-1, then-text-bar-lt2}

-- the text after the first i characters
abbrev left : List ℕ → ℕ → List ℕ
left text i = take (length text - i) (drop i text)

length-left : (text : List ℕ) (i : ℕ) → length (left text i) ≡ length text - i
length-left text i = ap length (take_rest text i) ∙ length-drop i text

-- all before the first bar of the remaining text is passed
to-bar : (text : List ℕ) (i n : ℕ) → i ≤ length text
    → NoneBefore (Passes (is_byte bar) (left text i)) 0 (length (left text i)) n
    → Passed text i → (i + n < length text) × Passed text (i + n)
to-bar text i n h none passed =
    let size = length-left text i in
    let high : n < length (left text i) = none.high in
    let within : i + n < length text = omega arith in
    (within, pass-to_bar text (left text i) i n (take_rest text i) (omega arith) none.before passed)

-- and where there is none, all is
to-end-of_text : (text : List ℕ) (i : ℕ) → i ≤ length text
    → Nowhere (Passes (is_byte bar) (left text i)) 0 (length (left text i))
    → Passed text i → Passed text (i + length (left text i))
to-end-of_text text i h none passed =
    let size = length-left text i in
    pass-to_bar text (left text i) i (length (left text i)) (take_rest text i) (omega arith) none passed

pub returns-in-124 : goal.returns-in-124
returns-in-124 c =
    let text = c.args.text.now in
    let here = c.bars.passed + c.in-Some.at in
    let to = to-bar text c.bars.passed c.in-Some.at c.bars.invariant.0 c.in-Some.ensures.0 c.bars.invariant.1 in
    let seen = two-bars (left text here) (omega arith) (omega arith) (omega arith) ∙ ap bars_after (take_rest text here)
    in
    seen-stop text _ here seen to.1

pub bars-preserved : goal.bars-preserved
bars-preserved c = grind (
  arith,
  to-bar,
  not-bars,
  then-text-bar-lt2,
  ltb-true,
  else-text-bar-lt2+in-124+in_default-1,
  else-text-bar-lt2+in_default-1,
  seen-step,
  take_rest,
)

pub returns : goal.returns
returns c =
    let text = c.args.text.now in
    let i = c.bars.passed in
    let size = length-left text i in
    let h : i ≤ length text = c.bars.invariant.0 in
    passed-end text (i + length (left text i)) (omega arith)
    (to-end-of_text text i c.bars.invariant.0 c.in_default.ensures c.bars.invariant.1)
