-- Faults: where the reader gives a fault, the text has that fault.
use Rattle.std.proofs.Common.{◌≡◌, ◌⊎◌, ◌≤◌, ◌<◌, ℕ, ◌+◌, ◌-◌, List, [], ◌∷◌, ◌++◌, drop, length, Ok, Err, refl}
use Rattle.std.proofs.Common.{ap, inl, inr, arith, append_assoc}
use Rattle.std.proofs.lemmas.List.{length-append}
use Rattle.std.proofs.Math.Seq.{drop-append_seam}
use Rattle.std.specs.Prelude.{Result, ◌==◌, codes}
use Rattle.std.specs.List.{AllByRecursion}
use Rattle.semver_texts.specs.declared.TheConstants.{MAX_LENGTH, MAX_SAFE_INTEGER}
use Rattle.semver_texts.specs.Characters.{BeginsWithNo, dot, is_blank, is_digit, is_version_mark, mark_of}
use Rattle.semver_texts.specs.NumberText.{IsNumberText, number_of}
use Rattle.semver_texts.specs.Version.{VersionValue}
use Rattle.semver_texts.specs.VersionText.{IsVersionText}
use Rattle.semver_texts.specs.Reading.{◌>>=◌, rest_of, skip_one, prefix_of}
use Rattle.semver_versions.specs.Private.VersionReading.{read_version}
use Rattle.semver_texts.specs.Reading.{read_number}
use Rattle.semver_versions.specs.Private.VersionReading.{read_triple, read_dot, read_unmarked}
use Rattle.semver_texts.specs.declared.parse.fault.Fault.{Fault}
use Rattle.semver_texts.specs.declared.parse.fault.Fault.TheVariants.{LeftOver, Missing, TooLarge}
use Rattle.semver_texts.specs.Lemmas.Texts.Prefixes.{rest_of-no, prefix_of-rest_of}
use Rattle.semver_texts.specs.Lemmas.Texts.Prefixes.{prefix_of-again, prefix_of-all, rest-short}
use Rattle.semver_versions.specs.Lemmas.Versions.LongestReading.{version-longest, version-no_digit}
use Rattle.semver_texts.specs.Lemmas.Texts.NumberReading.{number-takes}
use Rattle.semver_versions.specs.Lemmas.Versions.DottedReading.{dot-takes}
use Rattle.semver_texts.specs.Lemmas.Texts.Marks.{mark-skip}
use Rattle.semver_versions.specs.Lemmas.Versions.VersionReading.{version-takes}
use Rattle.semver_versions.specs.Error.{context}
use Rattle.semver_versions.specs.Fault.{IsAllDigits, IsFault, HasPrefix, large_number, left_over, no_number, no_dot}
use Rattle.semver_versions.specs.Fault.{too_large, with_dots}
use Rattle.semver_versions.specs.Private.FaultViews.{IsReadFault}

-- a chain that gave a fault
pub bind-err : {A B : Type 0} (r : Result A Fault) (f : A → Result B Fault) (e : Fault) → (r >>= f) ≡ Err e
    → (r ≡ Err e) ⊎ ((x : A) × (r ≡ Ok x) × (f x ≡ Err e))
bind-err r f e h = grind arith

-- a word is missing where this text begins
abbrev pub missing_at : List ℕ → Fault
missing_at text = Missing (length text)

-- a number that is too large begins the text
pub record TakesLarge (text : List ℕ) (f : Fault) : Type 0 where
  pub digits : List ℕ
  pub rest : List ℕ
  pub whole : text ≡ digits ++ rest
  pub all : IsAllDigits digits rest
  pub large : MAX_SAFE_INTEGER < number_of digits
  pub told : TooLarge (length text) ≡ f

-- no number is read
number-fails : (text : List ℕ) (f : Fault) → read_number text ≡ Err f
    → (BeginsWithNo is_digit text × (missing_at text ≡ f)) ⊎ TakesLarge text f
unfolding read_number
number-fails text f h =
    grind (arith, prefix_of-rest_of is_digit text, prefix_of-all is_digit text, rest_of-no is_digit text)

-- no dot is read
dot-fails : (text : List ℕ) (f : Fault) → read_dot text ≡ Err f
    → BeginsWithNo (λ b. b == dot) text × (missing_at text ≡ f)
unfolding read_dot
dot-fails text f h = grind arith

-- a prefix is as long as the text less the rest
pub prefix-length : (text beginning rest : List ℕ) → text ≡ beginning ++ rest
    → length beginning ≡ length text - length rest
prefix-length text beginning rest e = omega (arith, ap length e, length-append beginning rest)

-- a number or a dot is missing where the rest begins
told-missing : (text beginning rest : List ℕ) (f : Fault) → text ≡ beginning ++ rest → missing_at rest ≡ f
    → IsFault text (context (codes "version")) (length beginning) → IsReadFault text f
told-missing text beginning rest f whole told h = grind (arith, rest-short, prefix-length)

-- the digits at the place with so many bytes left
pub digits-there : (text beginning digits rest : List ℕ) → text ≡ beginning ++ (digits ++ rest)
    → IsAllDigits digits rest → prefix_of is_digit (drop (length text - length (digits ++ rest)) text) ≡ digits
digits-there text beginning digits rest whole all =
    grind (arith, prefix-length text beginning (digits ++ rest) whole, prefix_of-again, drop-append_seam)

-- a number that is too large begins the rest
told-large : (text beginning digits rest : List ℕ) (f : Fault) → text ≡ beginning ++ (digits ++ rest)
    → IsAllDigits digits rest → TooLarge (length (digits ++ rest)) ≡ f
    → IsFault text (too_large (number_of digits)) (length beginning) → IsReadFault text f
told-large text beginning digits rest f whole all told h = grind (arith, digits-there, rest-short, prefix-length)

-- if a number is expected after a prefix
number-fault : (text before rest : List ℕ) (count : ℕ) (f : Fault) → length text ≤ MAX_LENGTH
    → HasPrefix text before rest count → read_number rest ≡ Err f → IsReadFault text f
number-fault text before rest count f short prefix h = elim (number-fails rest f h) [
  | inl none ↦ told-missing text before rest f prefix.whole none.1 (no_number before rest count short prefix none.0)
  | inr l ↦ grind (
    arith,
    told-large text before l.digits l.rest f,
    large_number before l.digits l.rest count short,
  )
]

-- if a dot is expected after a prefix and a number
dot-fault : (text before rest : List ℕ) (count : ℕ) (read : ℕ × List ℕ) (f : Fault) → length text ≤ MAX_LENGTH
    → HasPrefix text before rest count → count < 2
    → read_number rest ≡ Ok read → read_dot read.1 ≡ Err f → IsReadFault text f
dot-fault text before rest count read f short prefix few number h =
    let t = number-takes rest read.0 read.1 number in
    let p = dot-fails read.1 f h in
    grind (arith, append_assoc before t.digits read.1, told-missing, no_dot before t.digits read.1 count short)

-- one more text with a dot
with_dots-more : (texts : List (List ℕ)) (text : List ℕ)
    → with_dots (texts ++ (text ∷ [])) ≡ with_dots texts ++ (text ++ (dot ∷ []))
with_dots-more [] text = refl
with_dots-more (t ∷ texts) text = grind (arith, append_assoc, with_dots-more texts text)

-- numbers as they are written
abbrev pub AreNumbers : List (List ℕ) → Type 0
AreNumbers texts = AllByRecursion (λ digits. (number : ℕ) × IsNumberText digits number) texts

numbers-more : (texts : List (List ℕ)) (text : List ℕ) (number : ℕ) → AreNumbers texts → IsNumberText text number
    → AreNumbers (texts ++ (text ∷ []))
numbers-more [] text number all one = ((number, one), tt)
numbers-more (t ∷ texts) text number all one = (all.0, numbers-more texts text number all.1 one)

-- a prefix, one more number and its dot
prefix-more : (text before digits rest : List ℕ) (count number : ℕ)
    → HasPrefix text before (digits ++ (dot ∷ rest)) count → count < 2 → IsNumberText digits number
    → HasPrefix text (before ++ (digits ++ (dot ∷ []))) rest (count + 1)
prefix-more text before digits rest count number prefix few read = grind (
  arith,
  with_dots-more prefix.numbers digits,
  append_assoc,
  numbers-more prefix.numbers digits number prefix.read read,
  length-append prefix.numbers (digits ∷ []),
)

-- after a prefix, a number and its dot, a longer prefix
pub record LongerPrefix (text rest : List ℕ) (count : ℕ) : Type 0 where
  pub before : List ℕ
  pub prefix : HasPrefix text before rest count

prefix-on : (text before rest behind : List ℕ) (count : ℕ) (read : ℕ × List ℕ) → HasPrefix text before rest count
    → count < 2
    → read_number rest ≡ Ok read → read_dot read.1 ≡ Ok behind → LongerPrefix text behind (count + 1)
prefix-on text before rest behind count read prefix few number dot = grind (
  arith,
  dot-takes,
  prefix-more text before (number-takes rest read.0 read.1 number).digits behind count read.0,
)

-- the prefix with no number
prefix-first : (text : List ℕ) → LongerPrefix text (rest_of is_blank (skip_one is_version_mark text)) 0
prefix-first text = record {
  before = mark_of is_version_mark text ++ (prefix_of is_blank (skip_one is_version_mark text) ++ []);
  prefix = grind (
    arith,
    mark-skip is_version_mark text,
    prefix_of-rest_of is_blank (skip_one is_version_mark text),
    prefix_of-all is_blank (skip_one is_version_mark text),
    rest_of-no is_blank (skip_one is_version_mark text),
    append_assoc,
  );
}

numbers-fault : (text before rest : List ℕ) (f : Fault) → length text ≤ MAX_LENGTH → HasPrefix text before rest 0
    → read_triple rest ≡ Err f → IsReadFault text f
unfolding read_triple
numbers-fault text before rest f short prefix h = elim (bind-err (read_number rest) _ f h) [
  | inl e ↦ number-fault text before rest 0 f short prefix e
  | inr m ↦ elim (bind-err (read_dot m.0.1) _ f m.2) [
    | inl e ↦ dot-fault text before rest 0 m.0 f short prefix (omega arith) m.1 e
    | inr p ↦
        let second = prefix-on text before rest p.0 0 m.0 prefix (omega arith) m.1 p.1 in
        elim (bind-err (read_number p.0) _ f p.2) [
          | inl e ↦ number-fault text second.before p.0 1 f short second.prefix e
          | inr n ↦ elim (bind-err (read_dot n.0.1) _ f n.2) [
            | inl e ↦ dot-fault text second.before p.0 1 n.0 f short second.prefix (omega arith) n.1 e
            | inr q ↦
                let third = prefix-on text second.before p.0 q.0 1 n.0 second.prefix (omega arith) n.1 q.1 in
                elim (bind-err (read_number q.0) _ f q.2) [
                  | inl e ↦ number-fault text third.before q.0 2 f short third.prefix e
                  | inr r ↦ cc r.2
                ]
          ]
        ]
  ]
]

-- where the reader gives a fault, the text has it
pub fault-takes : (text : List ℕ) (f : Fault) → length text ≤ MAX_LENGTH → read_version text ≡ Err f
    → IsReadFault text f
unfolding read_version read_unmarked
fault-takes text f short h = grind (
  arith,
  numbers-fault text (prefix-first text).before (rest_of is_blank (skip_one is_version_mark text)) f short,
)

-- where the reader leaves something after a version, the text has that fault
pub left-takes : (text : List ℕ) (v : VersionValue) (b : ℕ) (rest : List ℕ) → length text ≤ MAX_LENGTH
    → read_version text ≡ Ok (v, b ∷ rest) → IsReadFault text (LeftOver (length (b ∷ rest)))
left-takes text v b rest short h =
    let t = version-takes text v (b ∷ rest) h in
    let version : IsVersionText t.taken v = grind (arith, length-append t.taken (b ∷ rest)) in
    let longest : (shorter behind : List ℕ) (w : VersionValue) → text ≡ shorter ++ behind → IsVersionText shorter w
    → length shorter ≤ length t.taken =
    λ shorter behind w e g. grind (
      arith,
      version-longest shorter behind (b ∷ rest) v w g.fields,
      length-append shorter behind,
      length-append t.taken (b ∷ rest),
    ) in
    grind (
      arith,
      prefix-length text t.taken (b ∷ rest) t.whole,
      left_over t.taken v b rest short t.whole (version-no_digit text (b ∷ rest) v h) version longest,
    )
