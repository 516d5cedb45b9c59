-- The print of a version, alone or after an operator, is a word with that comparator, and so is `*`.
use Rattle.std.proofs.Common.{◌≡◌, ◌∙◌, ℕ, true, List, [], ◌∷◌, ◌++◌, Ok, ap, arith, codes, refl}
use Rattle.std.proofs.lemmas.Bool.{and_parts}
use Rattle.std.proofs.lemmas.Bool.Decides.{nat_tests}
use Rattle.semver_texts.specs.Characters.{AreAll, BeginsWith, caret, tilde}
use Rattle.semver_texts.specs.Characters.{is_digit}
use Rattle.semver_texts.specs.Lemmas.Public.{IsTextVersion, print-begins}
use Rattle.semver_texts.specs.Print.{version_text}
use Rattle.semver_texts.specs.Version.{VersionValue}
use Rattle.semver_texts.specs.Reading.{rest_of}
use Rattle.semver_sets.specs.Comparator.{Comparator}
use Rattle.semver_sets.specs.Merging.{all_cuts}
use Rattle.npm_sets.specs.NpmMeaning.{word_comparator}
use Rattle.npm_sets.specs.NpmReadingBack.{HasNpmPrint}
use Rattle.npm_sets.specs.PartialTexts.{partial_of}
use Rattle.npm_sets.specs.Rows.{lead_comparator}
use Rattle.npm_sets.specs.WordTexts.{ending_after, ending_of, ending_with, lead_of}
use Rattle.npm_sets.specs.declared.options.NpmOptions.{NpmOptions}
use Rattle.npm_sets.specs.declared.words.Ending.TheVariants.{NoOperator}
use Rattle.npm_sets.specs.declared.words.Lead.{Lead}
use Rattle.npm_sets.specs.declared.words.Lead.TheVariants.{Above, AtLeast, AtMost, Below, Caret, Equal, Nothing, Tilde}
use Rattle.npm_sets.proofs.Prints.PrintedPartials.{full_of, print-partial}
use Rattle.npm_sets.proofs.Prints.PrintedTexts.{all-both, all-word, is_print_character, is_word_character}
use Rattle.npm_sets.proofs.Prints.PrintedTexts.{print-characters}

-- a word of one chunk that ends with no operator, and its comparator
pub record IsPrintedWord (options : NpmOptions) (text : List ℕ) (c : Comparator) : Type 0 where
  pub some : ¬ (text ≡ [])
  pub characters : AreAll is_word_character text
  pub ends : ending_of text ≡ NoOperator
  pub gives : word_comparator options (lead_of text) ≡ Ok c

-- the operator that a lead stands for
abbrev pub sign_of : Lead → List ℕ
sign_of AtLeast = codes ">="
sign_of Above = codes ">"
sign_of Below = codes "<"
sign_of AtMost = codes "<="
sign_of Equal = codes "="
sign_of Tilde = codes "~"
sign_of Caret = codes "^"
sign_of Nothing = []

-- the operators of prints: all but `~` and `^`
abbrev pub IsPrintedLead : Lead → Type 0
IsPrintedLead Tilde = ⊥
IsPrintedLead Caret = ⊥
IsPrintedLead lead = Unit {0}

-- a text that begins with a digit is the whole operand
lead-printed : (lead : Lead) (operand : List ℕ) → BeginsWith is_digit operand
    → lead_of (sign_of lead ++ operand) ≡ (lead, operand)
lead-printed lead [] digit = absurd digit
lead-printed AtLeast (b ∷ operand) digit = refl
lead-printed Above (b ∷ operand) digit = grind (arith, nat_tests)
lead-printed Below (b ∷ operand) digit = grind (arith, nat_tests)
lead-printed AtMost (b ∷ operand) digit = refl
lead-printed Equal (b ∷ operand) digit = refl
lead-printed Tilde (b ∷ operand) digit = grind (arith, nat_tests)
lead-printed Caret (b ∷ operand) digit = refl
lead-printed Nothing (b ∷ operand) digit = grind (arith, nat_tests)

-- a printed version ends with no operator
print-ends : (before b : ℕ) → is_print_character b ≡ true → ending_with before b ≡ NoOperator
print-ends before b h = grind (arith, nat_tests)

prints-end : (a b : ℕ) (text : List ℕ) → BeginsWith is_digit text → AreAll is_print_character text
    → ending_after a b text ≡ NoOperator
unfolding ending_after
prints-end a b [] digit all = absurd digit
prints-end a b (c ∷ rest) digit all = last b c rest all
  where
    last : (b c : ℕ) (rest : List ℕ) → AreAll is_print_character (c ∷ rest) → ending_after b c rest ≡ NoOperator
    last b c [] all = print-ends b c (and_parts (is_print_character c) true all).0
    last b c (d ∷ rest) all = last c d rest (and_parts (is_print_character c) _ all).1

sign-ends : (lead : Lead) (operand : List ℕ) → BeginsWith is_digit operand → AreAll is_print_character operand
    → ending_of (sign_of lead ++ operand) ≡ NoOperator
unfolding ending_after
sign-ends AtLeast operand digit all = prints-end 62 61 operand digit all
sign-ends Above operand digit all = prints-end 0 62 operand digit all
sign-ends Below operand digit all = prints-end 0 60 operand digit all
sign-ends AtMost operand digit all = prints-end 60 61 operand digit all
sign-ends Equal operand digit all = prints-end 0 61 operand digit all
sign-ends Tilde operand digit all = prints-end 0 tilde operand digit all
sign-ends Caret operand digit all = prints-end 0 caret operand digit all
sign-ends Nothing operand digit all = prints-end 0 0 operand digit all

sign-characters : (lead : Lead) → IsPrintedLead lead → AreAll is_word_character (sign_of lead)
sign-characters AtLeast is = refl
sign-characters Above is = refl
sign-characters Below is = refl
sign-characters AtMost is = refl
sign-characters Equal is = refl
sign-characters Tilde is = absurd is
sign-characters Caret is = absurd is
sign-characters Nothing is = refl

sign-some : (lead : Lead) (operand : List ℕ) → BeginsWith is_digit operand → ¬ (sign_of lead ++ operand ≡ [])
sign-some lead [] digit = absurd digit
sign-some lead (b ∷ operand) digit = λ none. grind arith

-- the comparator of a lead and a partial that was read
row-given : (options : NpmOptions) (lead : Lead) (operand : List ℕ) (v : VersionValue)
    → partial_of options.loose operand ≡ Ok (full_of v)
    → word_comparator options (lead, operand) ≡ Ok (lead_comparator options.include_prerelease lead (full_of v))
row-given options lead operand v read = grind arith

-- an operator, or none, and the print of a version: `>=1.2.3`
pub printed-word : (options : NpmOptions) (lead : Lead) (v : VersionValue) → IsPrintedLead lead → IsTextVersion v
    → HasNpmPrint options.loose v
    → IsPrintedWord options (sign_of lead ++ version_text v)
    (lead_comparator options.include_prerelease lead (full_of v))
printed-word options lead v sign is print =
    let digit = print-begins v is in
    let all = print-characters v is in
    record {
      some = sign-some lead (version_text v) digit;
      characters =
          all-both is_word_character (sign_of lead) (version_text v) (sign-characters lead sign)
          (all-word (version_text v) all);
      ends = sign-ends lead (version_text v) digit all;
      gives =
          ap (word_comparator options) (lead-printed lead (version_text v) digit)
          ∙ row-given options lead (version_text v) v (print-partial options.loose v is print);
    }

-- `*`
pub star-word : (options : NpmOptions) → IsPrintedWord options (codes "*") all_cuts
unfolding ending_after partial_of rest_of
star-word options = record { some = λ none. cc none; characters = refl; ends = refl; gives = refl }
