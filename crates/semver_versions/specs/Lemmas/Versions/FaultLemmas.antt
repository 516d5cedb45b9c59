-- Laws of faults: each text is a version text or has a fault, never both, and one fault at most.
use Rattle.std.proofs.Common.{◌≡◌, ◌⊎◌, ◌≤◌, ◌<◌, ℕ, ◌-◌, List, [], ◌∷◌, ◌++◌, length, Ok, Err, refl, sym}
use Rattle.std.proofs.Common.{◌∙◌, inl, inr, arith, subst, append_assoc, append-nil}
use Rattle.std.proofs.lemmas.Bool.{cases_Bool, cond-false, cond-true, le-leb, leb-false, leb-true, lt-leb}
use Rattle.std.proofs.lemmas.List.{length-append}
use Rattle.std.specs.Prelude.{if◌then◌else◌, Option, Some, None, Result, ◌==◌, nat_le}
use Rattle.semver_texts.specs.declared.TheConstants.{MAX_LENGTH, MAX_SAFE_INTEGER}
use Rattle.semver_texts.specs.Characters.{BeginsWithNo, dot, is_blank, is_digit, is_version_mark}
use Rattle.semver_texts.specs.NumberText.{number_of}
use Rattle.semver_texts.specs.Version.{VersionValue}
use Rattle.semver_texts.specs.VersionText.{IsMarked, IsUnmarkedVersion, IsVersionText}
use Rattle.semver_texts.specs.Reading.{rest_of, skip_one, read_extras}
use Rattle.semver_versions.specs.Private.VersionReading.{read_version}
use Rattle.semver_texts.specs.Reading.{read_number}
use Rattle.semver_versions.specs.Private.VersionReading.{read_triple, read_dot, read_unmarked, version_of}
use Rattle.semver_texts.specs.declared.parse.fault.Fault.{Fault}
use Rattle.semver_texts.specs.declared.parse.fault.Fault.TheVariants.{TooLarge}
use Rattle.semver_texts.specs.Lemmas.Texts.Prefixes.{begins-append, rest_of-again, prefix_of-again, no-append}
use Rattle.semver_texts.specs.Lemmas.Texts.Prefixes.{with-begins}
use Rattle.semver_texts.specs.Lemmas.Texts.Prefixes.{with_no-begins}
use Rattle.semver_versions.specs.Lemmas.Versions.LongestReading.{version-longest}
use Rattle.semver_texts.specs.Lemmas.Texts.NumberReading.{number-again}
use Rattle.semver_versions.specs.Lemmas.Versions.DottedReading.{dot-again}
use Rattle.semver_texts.specs.Lemmas.Texts.Marks.{skip_one-mark}
use Rattle.semver_versions.specs.Lemmas.Versions.OneReading.{read-version, version-read}
use Rattle.semver_versions.specs.Lemmas.Versions.VersionReading.{numbers-again, version-follows, version-takes}
use Rattle.semver_texts.specs.Lemmas.Texts.ExtrasReading.{regroup}
use Rattle.semver_versions.specs.Error.{Kind, max_length, other}
use Rattle.semver_versions.specs.Fault.{IsAllDigits, IsFault, HasPrefix, large_number, left_over, no_number, no_dot}
use Rattle.semver_versions.specs.Fault.{too_long, with_dots}
use Rattle.semver_versions.specs.Private.FaultViews.{kind_in, left_of}
use Rattle.semver_versions.specs.Lemmas.Versions.FaultReading.{AreNumbers, digits-there, fault-takes, prefix-length}
use Rattle.semver_versions.specs.Lemmas.Versions.FaultReading.{left-takes}
use Rattle.semver_versions.specs.Lemmas.Versions.FaultReading.{missing_at}

-- The fault of a text of this length, if this rest is left after a version
abbrev left_told : ℕ → List ℕ → Option (Kind × ℕ)
left_told n [] = None
left_told n (b ∷ rest) = Some (other, n - length (b ∷ rest))

-- or where this is read
abbrev told : List ℕ → Result (VersionValue × List ℕ) Fault → Option (Kind × ℕ)
told text (Ok read) = left_told (length text) read.1
told text (Err f) = Some (kind_in text f, length text - left_of f)

-- the kind and the offset that a text is refused with, by the reader
abbrev pub fault_of : List ℕ → Option (Kind × ℕ)
fault_of text = if nat_le (length text) MAX_LENGTH then told text (read_version text) else Some (
  max_length,
  length text - 1,
)

-- of a text that is short
short-told : (text : List ℕ) → length text ≤ MAX_LENGTH → fault_of text ≡ told text (read_version text)
short-told text short = cond-true _ _ _ (le-leb _ _ short)

-- no number is read
no-number : (text : List ℕ) → BeginsWithNo is_digit text → read_number text ≡ Err (missing_at text)
unfolding read_number
no-number text h = rw (with_no-begins is_digit text h) refl

too-large : (digits rest : List ℕ) → IsAllDigits digits rest → MAX_SAFE_INTEGER < number_of digits
    → read_number (digits ++ rest) ≡ Err (TooLarge (length (digits ++ rest)))
unfolding read_number
too-large digits rest all large = grind (arith, with-begins, begins-append, prefix_of-again, lt-leb)

-- no dot is read
unread-dot : (text : List ℕ) → BeginsWithNo (λ b. b == dot) text → read_dot text ≡ Err (missing_at text)
unfolding read_dot
unread-dot text h = grind arith

-- after a number and its dot
one-dot : (a rest : List ℕ) → with_dots (a ∷ []) ++ rest ≡ a ++ (dot ∷ rest)
one-dot a rest = append_assoc a (dot ∷ []) rest

two-dots : (a b rest : List ℕ) → with_dots (a ∷ b ∷ []) ++ rest ≡ a ++ (dot ∷ (b ++ (dot ∷ rest)))
two-dots a b rest = grind (arith, append_assoc)

-- where no number is read after numbers and their dots
numbers-stop : (texts : List (List ℕ)) (rest : List ℕ) (e : Fault) → AreNumbers texts → length texts ≤ 2
    → read_number rest ≡ Err e → read_triple (with_dots texts ++ rest) ≡ Err e
unfolding read_triple
numbers-stop [] rest e all few h = rw h refl
numbers-stop (a ∷ []) rest e all few h =
    grind (arith, number-again a (dot ∷ rest) all.0.0 all.0.1, one-dot a rest, dot-again rest)
numbers-stop (a ∷ b ∷ []) rest e all few h =
    let r = number-again a (dot ∷ (b ++ (dot ∷ rest))) all.0.0 all.0.1 refl in
    let s = number-again b (dot ∷ rest) all.1.0.0 all.1.0.1 refl in
    rw (two-dots a b rest, r, dot-again (b ++ (dot ∷ rest)), s, dot-again rest, h) refl
numbers-stop (a ∷ b ∷ c ∷ texts) rest e all few h = absurd (omega arith)

-- where no dot is read
dots-stop : (texts : List (List ℕ)) (digits rest : List ℕ) → AreNumbers texts → length texts < 2
    → IsAllDigits digits rest → number_of digits ≤ MAX_SAFE_INTEGER
    → BeginsWithNo (λ b. b == dot) rest → read_triple (with_dots texts ++ (digits ++ rest)) ≡ Err (missing_at rest)
unfolding read_triple
dots-stop [] digits rest all few here limit none =
    grind (arith, number-again digits rest (number_of digits), unread-dot rest none)
dots-stop (a ∷ []) digits rest all few here limit none =
    grind (
      arith,
      number-again digits rest (number_of digits),
      number-again a (dot ∷ (digits ++ rest)) all.0.0 all.0.1 refl,
      unread-dot rest none,
      one-dot a (digits ++ rest),
      dot-again (digits ++ rest),
    )
dots-stop (a ∷ b ∷ texts) digits rest all few here limit none = absurd (omega arith)

-- a mark and blanks are taken before the numbers of a prefix
prefix-taken : (text before rest : List ℕ) (count : ℕ) (h : HasPrefix text before rest count)
    → rest_of is_blank (skip_one is_version_mark text) ≡ with_dots h.numbers ++ rest
prefix-taken text before rest count h = grind (arith, append_assoc, skip_one-mark, rest_of-again)

-- a fault in the numbers is a fault of the whole
stopped : (text numbers : List ℕ) (f : Fault) → rest_of is_blank (skip_one is_version_mark text) ≡ numbers
    → read_triple numbers ≡ Err f → read_version text ≡ Err f
unfolding read_version read_unmarked
stopped text numbers f e h = rw (e, h) refl

-- a version with more after it is read, and something may be left
pub record ReadsSome (text : List ℕ) : Type 0 where
  pub v : VersionValue
  pub left : List ℕ
  pub read : read_version text ≡ Ok (v, left)

version-opens : (text more : List ℕ) (w : VersionValue) → IsMarked is_version_mark (IsUnmarkedVersion w) text
    → BeginsWithNo is_digit more → ReadsSome (text ++ more)
unfolding read_version read_unmarked
version-opens text more w h none =
    let t = h.read in
    let n = numbers-again t.first t.second t.third (t.extras ++ more) w.major w.minor w.patch in
    record {
      v = version_of (w.major, w.minor, w.patch) (read_extras (t.extras ++ more)).0;
      left = (read_extras (t.extras ++ more)).1;
      read = grind (
        arith,
        n,
        no-append is_digit t.extras more,
        regroup t.first t.second t.third,
        version-follows text more w h,
      );
    }

-- the fault is where the rest after the longest version begins
left-told : (text version : List ℕ) (v w : VersionValue) (b : ℕ) (rest left : List ℕ) → length text ≤ MAX_LENGTH
    → text ≡ version ++ (b ∷ rest) → IsVersionText version v
    → ((shorter behind : List ℕ) (u : VersionValue) → text ≡ shorter ++ behind → IsVersionText shorter u
    → length shorter ≤ length version)
    → read_version text ≡ Ok (w, left) → left_told (length text) left ≡ Some (other, length version)
left-told text version v w b rest left short whole h longest read = grind (
  arith,
  version-takes text w left read,
  read-version text w short,
  append-nil text,
  longest text [] w,
  longest (version-takes text w left read).taken left w,
  version-longest version (b ∷ rest) left w v h.fields,
  length-append,
)

-- each fault is reported by the reader
pub fault-again : (text : List ℕ) (kind : Kind) (offset : ℕ) → IsFault text kind offset
    → fault_of text ≡ Some (kind, offset)
fault-again text kind offset (too_long long) = cond-false _ _ _ (lt-leb _ _ long)
fault-again text kind offset (no_number before rest count short h none) = grind (
  arith,
  numbers-stop h.numbers rest (missing_at rest) h.read,
  no-number rest none,
  stopped text (with_dots h.numbers ++ rest) (missing_at rest) (prefix-taken text before rest count h),
  prefix-length,
)
fault-again text kind offset (large_number before digits rest count short h all large) = grind (
  arith,
  numbers-stop h.numbers (digits ++ rest) (TooLarge (length (digits ++ rest))) h.read,
  too-large digits rest all large,
  digits-there text before digits rest h.whole all,
  prefix-taken text before (digits ++ rest) count h,
  stopped text (with_dots h.numbers ++ (digits ++ rest)) (TooLarge (length (digits ++ rest))),
  prefix-length,
)
fault-again text kind offset (no_dot before digits rest count short h few all limit none) = grind (
  arith,
  dots-stop h.numbers digits rest h.read,
  append_assoc before digits rest,
  prefix-taken text before (digits ++ rest) count h,
  stopped text (with_dots h.numbers ++ (digits ++ rest)) (missing_at rest),
  prefix-length,
)
fault-again text kind offset (left_over version v b rest short whole none h longest) =
    let s = version-opens version (b ∷ rest) v h.fields none in
    grind (arith, short-told text short, s.read, left-told text version v s.v b rest s.left short whole h longest)

-- a version text has no fault
pub version-none : (text : List ℕ) (v : VersionValue) → IsVersionText text v → fault_of text ≡ None
version-none text v h = grind (arith, short-told text h.short, version-read text v h)

-- a text has one fault at most
pub one_fault : (text : List ℕ) (k l : Kind) (m n : ℕ) → IsFault text k m → IsFault text l n → (k ≡ l) × (m ≡ n)
one_fault text k l m n h g = grind (arith, fault-again)

-- and a version text none
pub version-no_fault : (text : List ℕ) (v : VersionValue) (kind : Kind) (offset : ℕ) → IsVersionText text v
    → IsFault text kind offset → ⊥
version-no_fault text v kind offset h g = cc (sym (version-none text v h) ∙ fault-again text kind offset g)

-- a text that is read is a version text or has a fault
abbrev ReadOrFaulty : List ℕ → Type 0
ReadOrFaulty text = ((v : VersionValue) × IsVersionText text v)
    ⊎ ((kind : Kind) × (offset : ℕ) × IsFault text kind offset)

result-takes : (text : List ℕ) (r : Result (VersionValue × List ℕ) Fault) → length text ≤ MAX_LENGTH
    → read_version text ≡ r → ReadOrFaulty text
result-takes text (Err f) short h = inr (kind_in text f, length text - left_of f, (fault-takes text f short h).fault)
result-takes text (Ok (v, [])) short h = inl (v, read-version text v short h)
result-takes text (Ok (v, b ∷ rest)) short h = grind (arith, left-takes text v b rest short h)

-- each text is a version text or has a fault
pub read_or_faulty : (text : List ℕ) → ReadOrFaulty text
read_or_faulty text = elim (cases_Bool (nat_le (length text) MAX_LENGTH)) [
  | inl short ↦ result-takes text (read_version text) (leb-true _ _ short) refl
  | inr long ↦ inr (max_length, length text - 1, too_long (leb-false _ _ long))
]

-- the fault of a pair
some-told : (a b : Kind × ℕ) → Some a ≡ Some b → a ≡ b
some-told a b h = cc h

-- the reader reports only faults
pub fault-computed : (text : List ℕ) (kind : Kind) (offset : ℕ) → fault_of text ≡ Some (kind, offset)
    → IsFault text kind offset
fault-computed text kind offset h = elim (read_or_faulty text) [
  | inl read ↦ cc (sym (version-none text read.0 read.1) ∙ h)
  | inr faulty ↦ subst (λ (p : Kind × ℕ). IsFault text p.0 p.1)
      (some-told (faulty.0, faulty.1) (kind, offset) (sym (fault-again text faulty.0 faulty.1 faulty.2) ∙ h)) faulty.2
]
