-- The parts between dots, as the reader of strict texts goes over them.
use Rattle.std.proofs.Common.{◌≡◌, ◌+◌, ◌-◌, ◌≤◌, ◌<◌, ℕ, Bool, true, false, List, [], ◌∷◌, length, refl, sym, ap, ◌∙◌}
use Rattle.std.proofs.Common.{inl, inr, arith, length-append}
use Rattle.std.proofs.lemmas.Bool.{cases_Bool}
use Rattle.std.specs.Prelude.{◌==◌, ◌&&◌, not}
use Rattle.std.specs.List.{list_all, onto_first, take_while}
use Rattle.semver_texts.specs.Characters.{BeginsWithNo, dot}
use Rattle.semver_versions.specs.Fault.{with_dots}
use Rattle.semver_texts.specs.IdentifierText.{parts_of}
use Rattle.semver_texts.specs.Reading.{prefix_of, rest_of}
use Rattle.npm_semver.specs.Private.StrictViews.{IsStrictUpTo, IsUnstrictFrom, are_strict, is_inner, is_listed}
use Rattle.npm_semver.specs.Private.StrictViews.{is_strict, strict_offset}
use Rattle.npm_semver.specs.declared.strict.written.Part.{Part}
use Rattle.semver_texts.specs.Lemmas.Public.{prefix_of-rest_of}

-- of a list of parts, the characters of one part
abbrev pub inner : (ℕ → Bool) → ℕ → Bool
inner listed b = listed b && not (b == dot)

-- the first part is the last
pub record IsLastPart (listed : ℕ → Bool) (text : List ℕ) : Type 0 where
  pub parts : parts_of (prefix_of listed text) ≡ prefix_of (inner listed) text ∷ []
  pub rest : rest_of listed text ≡ rest_of (inner listed) text

pub last-part : (listed : ℕ → Bool) (text : List ℕ) → BeginsWithNo (λ b. b == dot) (rest_of (inner listed) text)
    → IsLastPart listed text
unfolding prefix_of rest_of
last-part listed [] none = record { parts = refl; rest = refl }
last-part listed (b ∷ text) none = grind (arith, last-part listed text)

-- more parts follow it after a dot
pub record HasNextPart (listed : ℕ → Bool) (text next : List ℕ) : Type 0 where
  pub parts : parts_of (prefix_of listed text) ≡ prefix_of (inner listed) text ∷ parts_of (prefix_of listed next)
  pub rest : rest_of listed text ≡ rest_of listed next

pub next-part : (listed : ℕ → Bool) (text next : List ℕ) → listed dot ≡ true
    → rest_of (inner listed) text ≡ dot ∷ next → HasNextPart listed text next
unfolding prefix_of rest_of
next-part listed [] next dots e = cc e
next-part listed (b ∷ text) next dots e = grind (arith, next-part listed text next dots)

-- the first part, whatever follows it
pub parts-first : (listed : ℕ → Bool) (text : List ℕ)
    → (others : List (List ℕ)) × (parts_of (prefix_of listed text) ≡ prefix_of (inner listed) text ∷ others)
unfolding prefix_of
parts-first listed [] = ([], refl)
parts-first listed (b ∷ text) = elim (cases_Bool (listed b)) [
  | inr stops ↦ ([], rw stops refl)
  | inl goes ↦ elim (cases_Bool (b == dot)) [
    | inl here ↦ (parts_of (prefix_of listed text), rw (goes, here) refl)
    | inr other ↦
        let r = parts-first listed text in
        (r.0, rw (goes, other) (ap (onto_first b) r.1))
  ]
]

-- ---- the parts that pass at the start

-- their length, each with its dot
abbrev pub passed : (List ℕ → Bool) → List (List ℕ) → ℕ
passed test parts = length (with_dots (take_while test parts))

pub passed-none : (test : List ℕ → Bool) (part : List ℕ) (parts : List (List ℕ)) → test part ≡ false
    → passed test (part ∷ parts) ≡ 0
passed-none test part parts fails = rw fails refl

pub passed-one : (test : List ℕ → Bool) (part : List ℕ) (parts : List (List ℕ)) → test part ≡ true
    → passed test (part ∷ parts) ≡ length part + 1 + passed test parts
passed-one test part parts passes = grind (arith, length-append)

-- the length of a text is that of its first part, the mark after it and what follows
pub part-length : (test : ℕ → Bool) (text : List ℕ) (mark : ℕ) (next : List ℕ) → rest_of test text ≡ mark ∷ next
    → length text ≡ length (prefix_of test text) + 1 + length next
part-length test text mark next e =
    grind (arith, prefix_of-rest_of test text, length-append (prefix_of test text) (rest_of test text))

-- ---- from part to part

-- the parts before this rest of the text are strictly written
pub record IsReached (part : Part) (text rest : List ℕ) : Type 0 where
  pub within : length rest ≤ length text
  pub strict : are_strict part text ≡ are_strict part rest
  pub follows : rest_of (is_listed part) text ≡ rest_of (is_listed part) rest
  pub offset : strict_offset part text ≡ (length text - length rest) + strict_offset part rest

pub reached-start : (part : Part) (text : List ℕ) → IsReached part text text
reached-start part text = grind arith

-- a dot belongs to the text of the parts
dot-listed : (part : Part) → is_listed part dot ≡ true
dot-listed part = grind arith

module _ (part : Part) (text rest first others : List ℕ) (reached : IsReached part text rest)
    (first_is : first ≡ prefix_of (is_inner part) rest) (others_is : others ≡ rest_of (is_inner part) rest) where
  -- a part that is strictly written, and a dot
  pub reached-next : (next : List ℕ) → is_strict part first ≡ true → others ≡ dot ∷ next → IsReached part text next
  reached-next next strict dotted =
      let n = next-part (is_listed part) rest next (dot-listed part) (sym others_is ∙ dotted) in
      let passes : is_strict part (prefix_of (is_inner part) rest) ≡ true = sym (ap (is_strict part) first_is) ∙ strict
      in
      let size : length rest ≡ length (prefix_of (is_inner part) rest) + 1 + length next =
      part-length (is_inner part) rest dot next (sym others_is ∙ dotted) in
      let one : strict_offset part rest ≡ length (prefix_of (is_inner part) rest) + 1 + strict_offset part next =
      ap (passed (is_strict part)) n.parts ∙ passed-one (is_strict part) _ _ passes in
      record {
        within = omega (arith, reached.within);
        strict = reached.strict ∙ ap (list_all (is_strict part)) n.parts ∙ rw passes refl;
        follows = reached.follows ∙ n.rest;
        offset = omega (arith, reached.within, reached.offset);
      }

  -- the text gets shorter
  pub shorter-next : (next : List ℕ) → others ≡ dot ∷ next → length next < length rest
  shorter-next next dotted = omega (arith, part-length (is_inner part) rest dot next (sym others_is ∙ dotted))

  -- the parts of the rest, if no dot follows the first one
  last-strict : BeginsWithNo (λ b. b == dot) others → are_strict part rest ≡ is_strict part first && true
  last-strict none = grind (arith, last-part)

  -- a last part that is strictly written
  pub reached-end : is_strict part first ≡ true → BeginsWithNo (λ b. b == dot) others → IsStrictUpTo part text others
  reached-end strict none = grind (arith, last-part)

  -- a part that is not
  pub reached-unstrict : is_strict part first ≡ false → IsUnstrictFrom part text (length rest)
  reached-unstrict fails =
      let r = parts-first (is_listed part) rest in
      let same : is_strict part (prefix_of (is_inner part) rest) ≡ false = sym (ap (is_strict part) first_is) ∙ fails in
      let none : strict_offset part rest ≡ 0 =
      ap (passed (is_strict part)) r.1 ∙ passed-none (is_strict part) _ r.0 same in
      record {
        unstrict = reached.strict ∙ ap (list_all (is_strict part)) r.1 ∙ rw same refl;
        within = reached.within;
        offset = omega (arith, reached.offset);
      }
