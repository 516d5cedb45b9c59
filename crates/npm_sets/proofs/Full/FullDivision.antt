-- A full text is one piece of one chunk, and one word: its mark and its operand.
use Rattle.std.proofs.Common.{◌≡◌, ◌∙◌, ◌<◌, ℕ, zero, suc, Bool, true, false, List, [], ◌∷◌, ◌++◌, ap, arith, refl, sym}
use Rattle.std.proofs.Common.{subst}
use Rattle.std.proofs.lemmas.Bool.{and_from, and_parts}
use Rattle.std.proofs.lemmas.Bool.Decides.{nat_tests}
use Rattle.std.proofs.lemmas.List.{append-nil}
use Rattle.std.specs.List.{list_all}
use Rattle.std.specs.Prelude.{◌==◌, ◌||◌, IsAscii}
use Rattle.semver_texts.specs.Characters.{AreAll, BeginsWith, bar, caret, dot, greater_sign, is_digit, tilde}
use Rattle.semver_texts.specs.Lemmas.Public.{number-takes, prefix_of-again, rest_of-again}
use Rattle.semver_texts.specs.Reading.{rest_of}
use Rattle.semver_sets.specs.declared.read.full.FullLead.{FullLead}
use Rattle.semver_sets.specs.declared.read.full.FullLead.TheVariants as FullLeads
use Rattle.npm_sets.specs.Private.ReadViews.{IsNumberBefore, full_mark}
use Rattle.npm_sets.specs.WordTexts.{Word, before_first, chunks_of, ending_after, ending_of, ending_with, is_solid}
use Rattle.npm_sets.specs.WordTexts.{is_space, lead_of, pieces_of, words_from, words_of}
use Rattle.npm_sets.specs.declared.words.Ending.{Ending}
use Rattle.npm_sets.specs.declared.words.Ending.TheVariants.{NoOperator}
use Rattle.npm_sets.specs.declared.words.Lead.{Lead}
use Rattle.npm_sets.specs.declared.words.Lead.TheVariants as Leads
use Rattle.npm_sets.proofs.Chunks.ChunkLemmas.{chunk-first, chunks-empty}
use Rattle.npm_sets.proofs.Chunks.Joins.{from-closed, words-end, words-first}
use Rattle.npm_sets.proofs.Full.FullPartial.{number-read}
use Rattle.npm_sets.proofs.Pieces.PieceDivision.{piece-step, pieces-nothing, pieces-short}

-- ---- the characters of a full text

-- a digit, a dot, `^` or `~`
abbrev pub is_full_character : ℕ → Bool
is_full_character b = is_digit b || (b == dot) || (b == caret) || (b == tilde)

solid-character : (b : ℕ) → is_full_character b ≡ true → is_solid b ≡ true
solid-character b h = grind (arith, nat_tests)

no-bar : (b : ℕ) → is_full_character b ≡ true → (b == bar) ≡ false
no-bar b h = grind (arith, nat_tests)

-- a digit or a dot: no mark
abbrev pub is_number_character : ℕ → Bool
is_number_character b = is_digit b || (b == dot)

digit-number : (b : ℕ) → is_digit b ≡ true → is_number_character b ≡ true
digit-number b h = rw h refl

digits-before : (digits rest : List ℕ) → AreAll is_digit digits → AreAll is_number_character rest
    → AreAll is_number_character (digits ++ rest)
digits-before [] rest digit all = all
digits-before (b ∷ digits) rest digit all =
    let parts = and_parts (is_digit b) (list_all is_digit digits) digit in
    and_from (is_number_character b) _ (digit-number b parts.0) (digits-before digits rest parts.1 all)

-- a number before such characters
number-before : (loose : Bool) (text rest : List ℕ) (number : ℕ) → IsNumberBefore loose text number rest
    → AreAll is_number_character rest → AreAll is_number_character text
number-before loose text rest number h all =
    let takes = number-takes text number rest (sym (number-read loose text rest number h)) in
    subst (AreAll is_number_character) (sym takes.whole) (digits-before takes.digits rest takes.read.digits all)

-- three numbers
pub operand-numbers : (loose : Bool) (text second third : List ℕ) (major minor patch : ℕ)
    → IsNumberBefore loose text major (dot ∷ second) → IsNumberBefore loose second minor (dot ∷ third)
    → IsNumberBefore loose third patch [] → AreAll is_number_character text
operand-numbers loose text second third major minor patch h1 h2 h3 = grind (arith, number-before)

number-full : (b : ℕ) → is_number_character b ≡ true → is_full_character b ≡ true
number-full b h = grind (arith, nat_tests)

numbers-full : (text : List ℕ) → AreAll is_number_character text → AreAll is_full_character text
numbers-full [] all = refl
numbers-full (b ∷ text) all =
    let parts = and_parts (is_number_character b) (list_all is_number_character text) all in
    and_from (is_full_character b) _ (number-full b parts.0) (numbers-full text parts.1)

pub operand-full : (loose : Bool) (text second third : List ℕ) (major minor patch : ℕ)
    → IsNumberBefore loose text major (dot ∷ second) → IsNumberBefore loose second minor (dot ∷ third)
    → IsNumberBefore loose third patch [] → AreAll is_full_character text
operand-full loose text second third major minor patch h1 h2 h3 =
    numbers-full text (operand-numbers loose text second third major minor patch h1 h2 h3)

-- after a mark
pub mark-full : (lead : FullLead) (operand : List ℕ) → AreAll is_full_character operand
    → AreAll is_full_character (full_mark lead ++ operand)
mark-full lead operand h1 = grind arith

-- they are in ASCII
ascii-character : (b : ℕ) → is_full_character b ≡ true → b < 128
ascii-character b h = grind (arith, nat_tests)

pub full-ascii : (text : List ℕ) → AreAll is_full_character text → IsAscii text
full-ascii [] all i = omega arith
full-ascii (b ∷ text) all zero = ascii-character b (and_parts (is_full_character b) (list_all is_full_character text)
    all).0
full-ascii (b ∷ text) all (suc i) =
    full-ascii text (and_parts (is_full_character b) (list_all is_full_character text) all).1 i

-- ---- one piece

pub full-piece : (text : List ℕ) → AreAll is_full_character text → pieces_of text ≡ text ∷ []
full-piece [] all = pieces-nothing
full-piece (b ∷ []) all = pieces-short b
full-piece (b ∷ c ∷ text) all =
    let parts = and_parts (is_full_character b) (list_all is_full_character (c ∷ text)) all in
    piece-step b c text (rw (no-bar b parts.0) refl) ∙ ap (before_first b) (full-piece (c ∷ text) parts.1)

-- ---- one chunk

full-solid : (text : List ℕ) → AreAll is_full_character text → AreAll is_solid text
full-solid [] all = refl
full-solid (b ∷ text) all =
    let parts = and_parts (is_full_character b) (list_all is_full_character text) all in
    and_from (is_solid b) _ (solid-character b parts.0) (full-solid text parts.1)

begins-solid : (text : List ℕ) → ¬ (text ≡ []) → AreAll is_solid text → BeginsWith is_solid text
begins-solid text h1 h2 = grind (arith, and_parts)

rest-none : rest_of is_space [] ≡ []
unfolding rest_of
rest-none = refl

pub full-chunk : (text : List ℕ) → ¬ (text ≡ []) → AreAll is_full_character text → chunks_of text ≡ text ∷ []
full-chunk text some all =
    grind (
      arith,
      full-solid text all,
      append-nil text,
      prefix_of-again is_solid text,
      rest_of-again is_solid text,
      chunk-first,
      begins-solid,
      rest-none,
      chunks-empty,
    )

-- ---- one word

-- the lead of a mark
abbrev pub lead_named : FullLead → Lead
lead_named FullLeads.Caret = Leads.Caret
lead_named FullLeads.Tilde = Leads.Tilde
lead_named FullLeads.Nothing = Leads.Nothing

-- a digit is no operator
digit-other : (b : ℕ) → is_digit b ≡ true
    → ((b == greater_sign) ≡ false) × ((b == 60) ≡ false) × ((b == 61) ≡ false) × ((b == tilde) ≡ false)
    × ((b == caret) ≡ false)
digit-other b h1 = grind (arith, nat_tests)

full-lead : (lead : FullLead) (operand : List ℕ) → BeginsWith is_digit operand
    → lead_of (full_mark lead ++ operand) ≡ (lead_named lead, operand)
full-lead lead operand h1 = grind (arith, digit-other)

mark-some : (lead : FullLead) (operand : List ℕ) → BeginsWith is_digit operand → ¬ (full_mark lead ++ operand ≡ [])
mark-some lead operand h1 = grind arith

-- the chunks of a mark and an operand
pub mark-chunk : (lead : FullLead) (operand : List ℕ) → BeginsWith is_digit operand
    → AreAll is_full_character operand
    → chunks_of (full_mark lead ++ operand) ≡ (full_mark lead ++ operand) ∷ []
mark-chunk lead operand h1 h2 = grind (arith, full-chunk, mark-some, mark-full)

-- a number ends with no operator
number-ends : (before b : ℕ) → is_number_character b ≡ true → ending_with before b ≡ NoOperator
number-ends before b h = grind (arith, nat_tests)

numbers-end : (a b : ℕ) (text : List ℕ) → ¬ (text ≡ []) → AreAll is_number_character text
    → ending_after a b text ≡ NoOperator
unfolding ending_after
numbers-end a b [] some all = absurd (some refl)
numbers-end a b (c ∷ []) some all = number-ends b c (and_parts (is_number_character c) true all).0
numbers-end a b (c ∷ d ∷ text) some all =
    numbers-end b c (d ∷ text) (λ e. cc e) (and_parts (is_number_character c) _ all).1

digit-some : (operand : List ℕ) → BeginsWith is_digit operand → ¬ (operand ≡ [])
digit-some operand h1 = grind arith

full-ends : (lead : FullLead) (operand : List ℕ) → BeginsWith is_digit operand
    → AreAll is_number_character operand → ending_of (full_mark lead ++ operand) ≡ NoOperator
unfolding ending_after
full-ends FullLeads.Caret operand digit all = numbers-end 0 caret operand (digit-some operand digit) all
full-ends FullLeads.Tilde operand digit all = numbers-end 0 tilde operand (digit-some operand digit) all
full-ends FullLeads.Nothing operand digit all = numbers-end 0 0 operand (digit-some operand digit) all

pub full-word : (lead : FullLead) (operand : List ℕ) → BeginsWith is_digit operand
    → AreAll is_number_character operand
    → words_of ((full_mark lead ++ operand) ∷ []) ≡ (lead_named lead, operand) ∷ []
full-word lead operand digit all =
    words-first (full_mark lead ++ operand) []
    ∙ ap (λ (e : Ending). words_from (lead_of (full_mark lead ++ operand)) e []) (full-ends lead operand digit all)
    ∙ from-closed (lead_of (full_mark lead ++ operand)) []
    ∙ ap (λ (l : List Word). lead_of (full_mark lead ++ operand) ∷ l) words-end
    ∙ ap (λ (w : Word). w ∷ []) (full-lead lead operand digit)
