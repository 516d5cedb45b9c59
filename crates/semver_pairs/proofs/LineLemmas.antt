-- The first line of some bytes.
use Rattle.std.proofs.Common.{◌≡◌, ◌⊎◌, ℕ, zero, suc, ◌+◌, ◌<◌, ◌==◌, true, false, ap, inl, inr, refl, ◌∙◌, sym}
use Rattle.std.proofs.Common.{◌≢◌, List, [], ◌∷◌, ◌++◌, length, take, drop, add-one, arith, Option, None, Some, IfNone}
use Rattle.std.proofs.Common.{IfSome}
use Rattle.std.proofs.Common.{◌-◌, eqb-true, length-append, subst, MatchOption}
use Rattle.std.proofs.lemmas.Slice.Eq.{strip_prefix_is}
use Rattle.std.proofs.lemmas.Bool.Decides.{Decides-eqb}
use Rattle.std.specs.Prelude.{nat_eq}
use Rattle.std.specs.Str.{IsAscii}
use Rattle.std.specs.Cmp.Lexicographic.{pointwise}
use denote.Ref.{Bor}
use Rattle.std.proofs.lemmas.Bool.{cases_Bool}
use Rattle.std.proofs.lemmas.List.{take_rest}
use Rattle.memchr.specs.Find.{IsFirstByte, NoneBefore, Nowhere, Passes, TakesFirst, first_of, is_byte, places}
use Rattle.memchr.proofs.lemmas.ValueLemmas.{IsFirstByte-value}
use Rattle.semver_texts.specs.Characters.{newline}
use Rattle.semver_pairs.specs.Lines.{divided, joined, with_byte, with_line}
use Rattle.semver_pairs.specs.Private.Splitting.{BeginsWithLine, HasNoNewline}
use Rattle.semver_pairs.proofs.AsciiLemmas.{ascii-before, ascii-past}

is_newline : (b : ℕ) → (b == newline) ≡ true → b ≡ newline
is_newline b here = eqb-true b newline here

-- what holds anyhow holds where there is no value
pub none-of : {X P : Type 0} (o : Option X) → P → IfNone o P
none-of None holds = holds
none-of (Some x) holds = tt

-- ---- bytes without a newline

-- two such lists, one behind the other
pub no_newline-append : (one other : List ℕ) → HasNoNewline one → HasNoNewline other → HasNoNewline (one ++ other)
no_newline-append [] other none none' = none'
no_newline-append (b ∷ one) other none none' = (none.0, no_newline-append one other none.1 none')

-- either there is none, or a first line is ended
pub newline_or_not : (bytes : List ℕ)
    → HasNoNewline bytes ⊎ ((line : List ℕ) × (rest : List ℕ) × BeginsWithLine bytes line rest)
newline_or_not [] = inl tt
newline_or_not (b ∷ bytes) = elim (cases_Bool (b == newline)) [
  | inl here ↦ inr ([], bytes, record { one_line = tt; split = ap (λ (x : ℕ). x ∷ bytes) (is_newline b here) })
  | inr other ↦ elim (newline_or_not bytes) [
    | inl none ↦ inl (other, none)
    | inr found ↦ inr (
      b ∷ found.0,
      found.1,
      record {
        one_line = (other, found.2.one_line);
        split = ap (λ (l : List ℕ). b ∷ l) found.2.split;
      },
    )
  ]
]

-- a newline byte stands among these
pub line-some : (line rest : List ℕ) → line ++ (newline ∷ rest) ≢ []
line-some [] rest is = cc (is)
line-some (b ∷ line) rest is = cc (is)

-- the bytes after a line and its newline byte
pub past_newline : (bytes line rest : List ℕ) (left : Option (Bor (List ℕ))) → bytes ≡ line ++ rest
    → MatchOption left (pointwise nat_eq (take 1 rest) (newline ∷ []) ≡ false)
    (λ past. (pointwise nat_eq (take 1 rest) (newline ∷ []) ≡ true) × (past.now ≡ drop 1 rest)
    × (length past.now + 1 ≡ length rest))
    → IfSome left (λ past. bytes ≡ line ++ (newline ∷ past.now))
past_newline bytes line rest None is cases = tt
past_newline bytes line rest (Some past) is cases =
    is ∙ ap (λ (l : List ℕ). line ++ l) (strip_prefix_is Decides-eqb rest (newline ∷ []) (Some past) cases)

-- ---- how bytes are divided

-- joined again, the lines give the bytes
pub joined-divided : (bytes : List ℕ) → joined (divided bytes).ended (divided bytes).rest ≡ bytes
joined-divided [] = refl
joined-divided (b ∷ bytes) = elim (cases_Bool (b == newline)) [
  | inl here ↦ rw here (ap (λ (l : List ℕ). newline ∷ l) (joined-divided bytes)
      ∙ ap (λ (x : ℕ). x ∷ bytes) (sym (is_newline b here)))
  | inr other ↦ rw other (with_byte-joined b (divided bytes).ended (divided bytes).rest
      ∙ ap (λ (l : List ℕ). b ∷ l) (joined-divided bytes))
]
  where
    with_byte-joined : (b : ℕ) (ended : List (List ℕ)) (rest : List ℕ)
        → joined (with_byte b ended rest).ended (with_byte b ended rest).rest ≡ b ∷ joined ended rest
    with_byte-joined b [] rest = refl
    with_byte-joined b (line ∷ lines) rest = refl

-- bytes without a newline end no line
pub divided-no_newline : (bytes : List ℕ) → HasNoNewline bytes → divided bytes ≡ record { ended = []; rest = bytes }
divided-no_newline [] none = refl
divided-no_newline (b ∷ bytes) none =
    let other = none.0 in
    let fewer = divided-no_newline bytes none.1 in
    simp (other, fewer)

-- a newline ends the first line
pub divided-line : (line rest : List ℕ) → HasNoNewline line
    → divided (line ++ (newline ∷ rest)) ≡ with_line line (divided rest)
divided-line [] rest none = refl
divided-line (b ∷ line) rest none =
    let other = none.0 in
    let fewer = divided-line line rest none.1 in
    simp (other, fewer)

-- ---- where the first newline stands

-- the byte at this place is a newline
abbrev IsNewlineAt : List ℕ → ℕ → Type 0
IsNewlineAt bytes at = Passes (is_byte newline) bytes at

-- the first byte is no newline
not_first : (b : ℕ) (bytes : List ℕ) → ¬ IsNewlineAt (b ∷ bytes) 0 → (b == newline) ≡ false
not_first b bytes none = elim (cases_Bool (b == newline)) [ inl here ↦ absurd (none here) | inr other ↦ other ]

-- what holds of no place but the first one holds of no place of the bytes past it
none_later : (b : ℕ) (bytes : List ℕ) (to : ℕ) → Nowhere (IsNewlineAt (b ∷ bytes)) 0 (suc to)
    → Nowhere (IsNewlineAt bytes) 0 to
none_later b bytes to none = λ k low high here. none (suc k) (omega arith) (omega arith) here

pub no_newline-from : (bytes : List ℕ) → Nowhere (IsNewlineAt bytes) 0 (length bytes) → HasNoNewline bytes
no_newline-from [] none = tt
no_newline-from (b ∷ bytes) none = (
  not_first b bytes (none 0 (omega arith) (omega arith)),
  no_newline-from bytes (none_later b bytes (length bytes)
      none),
)

begins_at : (bytes : List ℕ) (at : ℕ) → at < length bytes → Nowhere (IsNewlineAt bytes) 0 at → IsNewlineAt bytes at
    → BeginsWithLine bytes (take at bytes) (drop (suc at) bytes)
begins_at [] at within none here = absurd (omega arith)
begins_at (b ∷ bytes) zero within none here = record {
  one_line = tt;
  split = ap (λ (x : ℕ). x ∷ bytes) (is_newline b here);
}
begins_at (b ∷ bytes) (suc at) within none here =
    let fewer = begins_at bytes at (omega arith) (none_later b bytes at none) here in record {
      one_line = (not_first b bytes (none 0 (omega arith) (omega arith)), fewer.one_line);
      split = ap (λ (l : List ℕ). b ∷ l) fewer.split;
    }

-- the first line ends at the first newline
pub line_at : (bytes : List ℕ) (at : ℕ) → NoneBefore (IsNewlineAt bytes) 0 (length bytes) at → IsNewlineAt bytes at
    → BeginsWithLine bytes (take at bytes) (drop (at + 1) bytes)
line_at bytes at first here = rw add-one (begins_at bytes at first.high first.before here)

-- The first line, and the bytes after its newline byte.
pub line_rest : (bytes : List ℕ) (at : ℕ) → NoneBefore (IsNewlineAt bytes) 0 (length bytes) at → IsNewlineAt bytes at
    → BeginsWithLine bytes (take at bytes) (take (length bytes - (at + 1)) (drop (at + 1) bytes))
line_rest bytes at first here = rw (take_rest bytes (at + 1)) (line_at bytes at first here)

-- the bytes after a line are fewer
pub line_fewer : {bytes line rest : List ℕ} → BeginsWithLine bytes line rest → length rest < length bytes
line_fewer {bytes} {line} {rest} begins = rw (begins.split, length-append) (omega arith)

-- both parts of ASCII bytes are ASCII
pub line_ascii : {bytes line rest : List ℕ} → BeginsWithLine bytes line rest → IsAscii bytes → IsAscii line × IsAscii
    rest
line_ascii {bytes} {line} {rest} begins all =
    let both : IsAscii (line ++ (newline ∷ rest)) = subst IsAscii begins.split all in
    let past = ascii-past line (newline ∷ rest) both in
    (ascii-before line (newline ∷ rest) both, λ k. past (suc k))

-- ---- where the newlines stand, as a list

-- a search for a newline has a result
search-exists : (bytes : List ℕ) → (r : Option ℕ) × IsFirstByte (is_byte newline) bytes r
search-exists [] = (None, λ k low high here. absurd (omega arith))
search-exists (b ∷ bytes) = elim (cases_Bool (b == newline)) [
  | inl here ↦ (
    Some 0,
    (record { low = omega arith; high = omega arith; before = λ k low high. absurd (omega arith) }, here),
  )
  | inr other ↦ later b bytes other (search-exists bytes).0 (search-exists bytes).1
]
  where
    before_later : (b : ℕ) (bytes : List ℕ) (to : ℕ) → (b == newline) ≡ false → Nowhere (IsNewlineAt bytes) 0 to
        → Nowhere (IsNewlineAt (b ∷ bytes)) 0 (suc to)
    before_later b bytes to other none zero low high here = cc (here, other)
    before_later b bytes to other none (suc k) low high here = none k (omega arith) (omega arith) here

    later : (b : ℕ) (bytes : List ℕ) → (b == newline) ≡ false → (r : Option ℕ) → IsFirstByte (is_byte newline) bytes r
        → (r : Option ℕ) × IsFirstByte (is_byte newline) (b ∷ bytes) r
    later b bytes other None none = (None, before_later b bytes (length bytes) other none)
    later b bytes other (Some at) first = (
      Some (suc at),
      (
        record {
          low = omega arith;
          high = let within = first.0.high in omega arith;
          before = before_later b bytes at other first.0.before;
        },
        first.1,
      ),
    )

-- the first of a list was taken
first_taken : (all rest : List ℕ) (r : Option ℕ) → TakesFirst all r rest → r ≡ first_of all
unfolding first_of
first_taken all rest None done = sym (ap first_of done.0)
first_taken all rest (Some at) is = sym (ap first_of is)

-- the first of all newlines is the first newline
pub first_newline : (bytes all rest : List ℕ) (r : Option ℕ) → all ≡ places (is_byte newline) bytes
    → TakesFirst all r rest → IsFirstByte (is_byte newline) bytes r
first_newline bytes all rest r is taken =
    let some = search-exists bytes in
    subst (IsFirstByte (is_byte newline) bytes)
    (IsFirstByte-value (is_byte newline) bytes some.0 some.1 ∙ ap first_of (sym is) ∙ sym
    (first_taken all rest r taken))
    some.1
