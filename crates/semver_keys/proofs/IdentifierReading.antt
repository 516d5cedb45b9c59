-- The identifiers whose keys some bytes begin with.
use Rattle.std.proofs.Common.{◌≡◌, ◌≢◌, ◌<◌, ◌++◌, ℕ, List, [], ◌∷◌, length, refl, sym, ap, subst, ◌∙◌, arith, append_assoc, Bor}
use Rattle.std.proofs.lemmas.Grind.{flat_map-append}
use Rattle.std.proofs.lemmas.List.{append-nil, append_cancel_right, length-append, map-append}
use Rattle.std.specs.List.{AllByRecursion, flat_map}
use Rattle.std.specs.Str.{IsUtf8}
use Rattle.semver_texts.specs.Comparison.{identifier_cmp}
use Rattle.semver_texts.specs.Identifier.{value_of, values_of}
use Rattle.semver_texts.specs.declared.identifier.Identifier.{Identifier}
use Rattle.semver_texts.specs.IdentifierValue.{IdentifierValue, alphanumeric, numeric}
use Rattle.semver_texts.specs.Lemmas.Public.{identifier-IsAntisymmetric}
use Rattle.semver_versions.specs.VersionSteps.{IsIdentifier}
use Rattle.semver_keys.specs.declared.read.identifier.Part.{Part}
use Rattle.semver_keys.specs.declared.read.identifier.Part.TheVariants.{Number, Text}
use Rattle.semver_keys.specs.IdentifierKey.{identifier_key, identifiers_key, prerelease_key, text_key}
use Rattle.semver_keys.specs.NumberKey.{number_key}
use Rattle.semver_keys.specs.VersionKey.{HasWord}
use Rattle.semver_keys.specs.Lemmas.IdentifierOrder.{identifier-order}
use Rattle.semver_keys.specs.Private.Reading.{AreIdentifiersOf, BeginsWithNoIdentifier, BeginsWithNoNumber, BeginsWithNoText, IsIdentifierOf}
use Rattle.semver_keys.specs.Private.Reading.{IsOfNoIdentifier, IsOfNoIdentifiers, IsOfNoPrerelease, IsPart, IsPartRead, IsPrereleaseOf, part_key, written}
use Rattle.semver_keys.proofs.Parted.{number-parted, parted, written-key, written-parted}
use Rattle.semver_keys.proofs.TextReading.{none-end}

-- an identifier of the Rust type has a number of 64 bits, or a text
pub word-of : (x : IdentifierValue) → IsIdentifier x → HasWord x
word-of (numeric n) h = h
word-of (alphanumeric text) h = tt

pub words-of : (xs : List IdentifierValue) → AllByRecursion IsIdentifier xs → AllByRecursion HasWord xs
words-of [] h = h
words-of (x ∷ xs) h = (word-of x h.0, words-of xs h.1)

-- ---- which identifier a key begins with

pub none-empty : (key : List ℕ) → key ≡ [] → BeginsWithNoIdentifier key
unfolding identifier_key
none-empty key e (numeric n) rest h k = cc (k, e)
none-empty key e (alphanumeric text) rest h k = cc (k, e)

pub none-number : (mark : ℕ) (rest key : List ℕ) → mark ≡ 1 → key ≡ mark ∷ rest → BeginsWithNoNumber rest
    → BeginsWithNoIdentifier key
unfolding identifier_key
none-number mark rest key one e none (numeric n) r h k = none n r h (cc (k, e))
none-number mark rest key one e none (alphanumeric text) r h k =
    let two : 2 ≡ mark = cc (k, e) in absurd (omega arith)

pub none-text : (mark : ℕ) (rest key : List ℕ) → mark ≡ 2 → key ≡ mark ∷ rest → BeginsWithNoText rest
    → BeginsWithNoIdentifier key
unfolding identifier_key
none-text mark rest key two e none (numeric n) r h k =
    let one : 1 ≡ mark = cc (k, e) in absurd (omega arith)
none-text mark rest key two e none (alphanumeric text) r h k = none text r (cc (k, e))

pub none-mark : (mark : ℕ) (rest key : List ℕ) → mark ≢ 1 → mark ≢ 2 → key ≡ mark ∷ rest → BeginsWithNoIdentifier key
unfolding identifier_key
none-mark mark rest key not_one not_two e (numeric n) r h k = not_one (cc (k, e))
none-mark mark rest key not_one not_two e (alphanumeric text) r h k = not_two (cc (k, e))

pub shorter : (part : Part) (others rest : List ℕ) → IsPartRead rest part others → length others < length rest
shorter (Number n) others rest read =
    omega (arith, ap length read.whole, length-append (number_key n) others)
shorter (Text bytes) others rest read =
    omega (arith, ap length read.whole, length-append (bytes.now ++ 0 ∷ []) others)

-- ---- two keys

pub identifier-parted : (x y : IdentifierValue) (r s : List ℕ) → HasWord x → HasWord y
    → identifier_key x ++ r ≡ identifier_key y ++ s → (x ≡ y) × (r ≡ s)
identifier-parted x y r s h k e =
    let it = parted _ _ r s (identifier_cmp x y) (identifier-order x y r s h k) e in
    (identifier-IsAntisymmetric x y it.0, it.1)

-- the key of an identifier, and one that was found
pub part-parted : (x : IdentifierValue) (part : Part) (r s : List ℕ) → HasWord x → IsPart part
    → identifier_key x ++ r ≡ part_key part ++ s → identifier_key x ≡ part_key part
unfolding identifier_key
part-parted (numeric m) (Number n) r s h p e =
    let same = number-parted m n r s h p (cc e) in ap (λ k. 1 ∷ number_key k) same.0
part-parted (numeric m) (Text bytes) r s h p e = cc e
part-parted (alphanumeric text) (Number n) r s h p e = cc e
part-parted (alphanumeric text) (Text bytes) r s h p e =
    let whole : text_key text ++ r ≡ (bytes.now ++ 0 ∷ []) ++ s = cc e in
    let same = written-parted text p.text (0 ∷ r) (0 ∷ s) (none-end 0 r (0 ∷ r) refl refl) (none-end 0 s (0 ∷ s) refl refl)
    (sym (written-key text r) ∙ whole ∙ append_assoc bytes.now (0 ∷ []) s ∙ ap (λ k. k ++ 0 ∷ s) (sym p.bytes_are)) in
    ap (λ k. 2 ∷ k) (sym (append-nil (text_key text)) ∙ written-key text []
    ∙ ap (λ k. written k ++ 0 ∷ []) same.0 ∙ ap (λ k. k ++ 0 ∷ []) p.bytes_are)

-- ---- lists

-- the keys of identifiers, and then 0
pub listed-key : (xs : List IdentifierValue) → identifiers_key xs ≡ flat_map identifier_key xs ++ 0 ∷ []
unfolding identifiers_key
listed-key [] = refl
listed-key (x ∷ xs) = ap (λ k. identifier_key x ++ k) (listed-key xs)
    ∙ sym (append_assoc (identifier_key x) (flat_map identifier_key xs) (0 ∷ []))

-- no key of an identifier begins with 0
none-zero : (x : IdentifierValue) (r s : List ℕ) → 0 ∷ r ≢ identifier_key x ++ s
unfolding identifier_key
none-zero (numeric n) r s e = cc e
none-zero (alphanumeric text) r s e = cc e

-- identifiers that were read, and the bytes after them
pub record AreListed (xs : List IdentifierValue) (rest key : List ℕ) : Type 0 where
  pub words : AllByRecursion HasWord xs
  pub whole : flat_map identifier_key xs ++ rest ≡ key

pub none-listed : (items : List Identifier) (key : List ℕ) → items ≡ [] → AreListed (values_of items) key key
none-listed [] key e = record { words = tt; whole = refl }
none-listed (x ∷ items) key e = cc e

words-more : (xs : List IdentifierValue) (x : IdentifierValue) → AllByRecursion HasWord xs → HasWord x
    → AllByRecursion HasWord (xs ++ x ∷ [])
words-more [] x h w = (w, tt)
words-more (y ∷ xs) x h w = (h.0, words-more xs x h.1 w)

whole-more : (xs : List IdentifierValue) (x : IdentifierValue) (part : Part) (others rest key : List ℕ)
    → flat_map identifier_key xs ++ rest ≡ key → identifier_key x ≡ part_key part → part_key part ++ others ≡ rest
    → flat_map identifier_key (xs ++ x ∷ []) ++ others ≡ key
whole-more xs x part others rest key e k r =
    ap (λ l. l ++ others) (flat_map-append identifier_key xs (x ∷ [])
    ∙ ap (λ l. flat_map identifier_key xs ++ l) (append-nil (identifier_key x) ∙ k))
    ∙ append_assoc (flat_map identifier_key xs) (part_key part) others
    ∙ ap (λ l. flat_map identifier_key xs ++ l) r ∙ e

pub listed-more : (items more : List Identifier) (x : Identifier) (part : Part) (others rest key : List ℕ)
    → AreListed (values_of items) rest key → more ≡ items ++ x ∷ [] → IsIdentifierOf part (value_of x)
    → IsPartRead rest part others → AreListed (values_of more) others key
listed-more items more x part others rest key l e i r =
    let values : values_of items ++ value_of x ∷ [] ≡ values_of more =
    sym (ap values_of e ∙ map-append value_of items (x ∷ [])) in
    subst (λ xs. AreListed xs others key) values (record {
      words = words-more (values_of items) (value_of x) l.words i.word;
      whole = whole-more (values_of items) (value_of x) part others rest key l.whole i.key_is r.whole;
    })

pub all-listed : (xs : List IdentifierValue) (rest key : List ℕ) → AreListed xs rest key → rest ≡ 0 ∷ []
    → AreIdentifiersOf key xs
all-listed xs rest key l e = record {
  words = l.words;
  key_is = listed-key xs ∙ ap (λ k. flat_map identifier_key xs ++ k) (sym e) ∙ l.whole;
}

-- the identifiers that are still to be read
record IsLeft (rest : List ℕ) : Type 0 where
  identifiers : List IdentifierValue
  all : AllByRecursion IsIdentifier identifiers
  whole : flat_map identifier_key identifiers ++ 0 ∷ [] ≡ rest

left : (ys xs : List IdentifierValue) (rest : List ℕ) → AllByRecursion IsIdentifier xs → AllByRecursion HasWord ys
    → flat_map identifier_key xs ++ 0 ∷ [] ≡ flat_map identifier_key ys ++ rest → IsLeft rest
left [] xs rest h k e = record { identifiers = xs; all = h; whole = e }
left (y ∷ ys) [] rest h k e = absurd (none-zero y [] (flat_map identifier_key ys ++ rest)
    (e ∙ append_assoc (identifier_key y) (flat_map identifier_key ys) rest))
left (y ∷ ys) (x ∷ xs) rest h k e =
    let it = identifier-parted x y (flat_map identifier_key xs ++ 0 ∷ []) (flat_map identifier_key ys ++ rest)
    (word-of x h.0) k.0 (sym (append_assoc (identifier_key x) (flat_map identifier_key xs) (0 ∷ [])) ∙ e
    ∙ append_assoc (identifier_key y) (flat_map identifier_key ys) rest) in
    left ys xs rest h.1 k.1 it.1

left-of : (xs ys : List IdentifierValue) (rest key : List ℕ) → AllByRecursion IsIdentifier xs → identifiers_key xs ≡ key
    → AreListed ys rest key → IsLeft rest
left-of xs ys rest key h e l = left ys xs rest h l.words (sym (listed-key xs) ∙ e ∙ sym l.whole)

-- ---- bytes that are no keys of identifiers

stops : (zs : List IdentifierValue) (rest : List ℕ) → AllByRecursion IsIdentifier zs
    → flat_map identifier_key zs ++ 0 ∷ [] ≡ rest → BeginsWithNoIdentifier rest → rest ≢ 0 ∷ [] → ⊥
stops [] rest h e none end = end (sym e)
stops (z ∷ zs) rest h e none end = none z (flat_map identifier_key zs ++ 0 ∷ []) (word-of z h.0)
    (sym (append_assoc (identifier_key z) (flat_map identifier_key zs) (0 ∷ [])) ∙ e)

part-zero : (part : Part) (others : List ℕ) → 0 ∷ [] ≢ part_key part ++ others
part-zero (Number n) others e = cc e
part-zero (Text bytes) others e = cc e

refuses : (zs : List IdentifierValue) (rest : List ℕ) (part : Part) (others : List ℕ) → AllByRecursion IsIdentifier zs
    → flat_map identifier_key zs ++ 0 ∷ [] ≡ rest → IsPartRead rest part others → IsOfNoIdentifier part → ⊥
refuses [] rest part others h e r none = part-zero part others (e ∙ sym r.whole)
refuses (z ∷ zs) rest part others h e r none = none z h.0
    (part-parted z part (flat_map identifier_key zs ++ 0 ∷ []) others (word-of z h.0) r.is_part
    (sym (append_assoc (identifier_key z) (flat_map identifier_key zs) (0 ∷ [])) ∙ e ∙ sym r.whole))

-- nothing is left but no 0 either
pub none-stopped : (ys : List IdentifierValue) (rest key : List ℕ) → AreListed ys rest key → BeginsWithNoIdentifier rest
    → rest ≢ 0 ∷ [] → IsOfNoIdentifiers key
none-stopped ys rest key l none end xs h e =
    let it = left-of xs ys rest key h e l in stops it.identifiers rest it.all it.whole none end

-- a key is that of no identifier
pub none-refused : (ys : List IdentifierValue) (rest key : List ℕ) (part : Part) (others : List ℕ) → AreListed ys rest key
    → IsPartRead rest part others → IsOfNoIdentifier part → IsOfNoIdentifiers key
none-refused ys rest key part others l r none xs h e =
    let it = left-of xs ys rest key h e l in refuses it.identifiers rest part others it.all it.whole r none

-- ---- prereleases

pub release-read : (items : List Identifier) (key : List ℕ) → items ≡ [] → key ≡ 255 ∷ []
    → IsPrereleaseOf key (values_of items)
unfolding prerelease_key
release-read [] key i e = record { words = tt; key_is = sym e }
release-read (x ∷ items) key i e = cc i

pub none-zero_alone : (key : List ℕ) → key ≡ 0 ∷ [] → IsOfNoPrerelease key
unfolding prerelease_key identifiers_key
none-zero_alone key e [] h k = cc (e, k)
none-zero_alone key e (x ∷ xs) h k = none-zero x [] (identifiers_key xs) (sym e ∙ sym k)

pub prerelease-read : (key : List ℕ) → key ≢ 0 ∷ [] → (xs : List IdentifierValue) → AreIdentifiersOf key xs
    → IsPrereleaseOf key xs
unfolding prerelease_key identifiers_key
prerelease-read key some [] read = absurd (some (sym read.key_is))
prerelease-read key some (x ∷ xs) read = record { words = read.words; key_is = read.key_is }

pub none-prerelease : (key : List ℕ) → key ≢ 255 ∷ [] → IsOfNoIdentifiers key → IsOfNoPrerelease key
unfolding prerelease_key
none-prerelease key some none [] h e = some (sym e)
none-prerelease key some none (x ∷ xs) h e = none (x ∷ xs) h e

-- ---- the identifier with a key

pub number-identifier : (part : Part) (n : ℕ) → part ≡ Number n → IsPart part → IsIdentifierOf part (numeric n)
unfolding identifier_key
number-identifier part n e h =
    subst (λ p. IsIdentifierOf p (numeric n)) (sym e) (record { word = subst IsPart e h; key_is = refl })

pub text-identifier : (bytes : Bor (List ℕ)) (text : List ℕ) → written text ≡ bytes.now
    → IsIdentifierOf (Text bytes) (alphanumeric text)
unfolding identifier_key
text-identifier bytes text e = record {
  word = tt;
  key_is = ap (λ k. 2 ∷ k) (sym (append-nil (text_key text)) ∙ written-key text [] ∙ ap (λ k. k ++ 0 ∷ []) e);
}

pub none-identifier : (bytes : Bor (List ℕ)) → ((text : List ℕ) → IsUtf8 text → written text ≢ bytes.now)
    → IsOfNoIdentifier (Text bytes)
unfolding identifier_key
none-identifier bytes none (numeric n) h e = cc e
none-identifier bytes none (alphanumeric text) h e =
    let whole : text_key text ≡ bytes.now ++ 0 ∷ [] = cc e in
    none text h (append_cancel_right (written text) bytes.now (0 ∷ [])
    (sym (written-key text []) ∙ append-nil (text_key text) ∙ whole))
