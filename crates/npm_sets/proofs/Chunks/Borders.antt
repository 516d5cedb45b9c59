-- Texts that are divided where no chunk goes on: the chunks of both are those of the whole.
use native.Mathlib.Omega.{arith}
use Rattle.std.proofs.Common.{◌≡◌, ◌∙◌, ℕ, true, false, List, [], ◌∷◌, ◌++◌, ap, refl, sym, subst, inl, inr}
use Rattle.std.proofs.lemmas.Bool.{and_parts, cases_Bool}
use Rattle.std.proofs.lemmas.List.{append-nil, append_assoc}
use Rattle.semver_texts.specs.Characters.{AreAll, BeginsWithNo}
use Rattle.semver_texts.specs.Reading.{prefix_of, rest_of}
use Rattle.semver_texts.specs.Lemmas.Public.{prefix_of-all, prefix_of-no, prefix_of-rest_of, rest_of-no}
use Rattle.npm_sets.specs.Private.RefusedViews.{IsBorder}
use Rattle.npm_sets.specs.RefusedPlace.{ends_in_space}
use Rattle.npm_sets.specs.WordTexts.{before_first, chunks_of, is_solid, is_space, joined}
use Rattle.npm_sets.proofs.Chunks.ChunkLemmas.{chunk-solid, chunks-empty, chunks-space, chunks-step, joined-solid}
use Rattle.npm_sets.proofs.Chunks.ChunkLemmas.{joined-space}
use Rattle.npm_sets.proofs.Chunks.ChunkLemmas.{not-true}
use Rattle.npm_sets.proofs.Chunks.SideLemmas.{and_more}

-- ---- white space at the end

-- the end of a text is that of its last part
pub ends-last : (text : List ℕ) (b : ℕ) (rest : List ℕ)
    → ends_in_space (text ++ (b ∷ rest)) ≡ ends_in_space (b ∷ rest)
unfolding ends_in_space
ends-last [] b rest = refl
ends-last (a ∷ []) b rest = refl
ends-last (a ∷ c ∷ text) b rest = ends-last (c ∷ text) b rest

pub ends-all : (text : List ℕ) → AreAll is_space text → ends_in_space text ≡ true
unfolding ends_in_space
ends-all [] all = refl
ends-all (b ∷ []) all = (and_parts (is_space b) true all).0
ends-all (b ∷ c ∷ rest) all = ends-all (c ∷ rest) (and_parts (is_space b) _ all).1

-- ---- borders

-- before the rest of a text, and before its first part
pub border-less : (one two end : List ℕ) → IsBorder one (two ++ end) → IsBorder one two
border-less one two end h1 = grind (arith, prefix_of-no)

-- after one more part
pub border-append : (one two end : List ℕ) → IsBorder one (two ++ end) → IsBorder two end → IsBorder (one ++ two) end
border-append one [] end before after = subst (λ (l : List ℕ). IsBorder l end) (sym (append-nil one)) before
border-append one (b ∷ two) end before (inl space) = inl (ends-last one b two ∙ space)
border-append one (b ∷ two) end before (inr ends) = inr ends

tail-border : (b c : ℕ) (rest end : List ℕ) → IsBorder (b ∷ c ∷ rest) end → IsBorder (c ∷ rest) end
unfolding ends_in_space
tail-border b c rest end h1 = grind arith

last-border : (b : ℕ) (end : List ℕ) → is_space b ≡ false → IsBorder (b ∷ []) end → BeginsWithNo is_solid end
unfolding ends_in_space
last-border b end h1 h2 = grind arith

-- ---- chunks on both sides of a border

alone : (b : ℕ) (end : List ℕ) → BeginsWithNo is_solid end → joined b end (chunks_of end) ≡ (b ∷ []) ∷ chunks_of end
alone b end h1 = grind (arith, cases_Bool, joined-space)

first-append : (b : ℕ) (x : List ℕ) (xs ys : List (List ℕ))
    → before_first b ((x ∷ xs) ++ ys) ≡ before_first b (x ∷ xs) ++ ys
first-append b x xs ys = refl

joined-append : (b c : ℕ) (rest end : List ℕ) → chunks_of (c ∷ (rest ++ end)) ≡ chunks_of (c ∷ rest) ++ chunks_of end
    → joined b (c ∷ (rest ++ end)) (chunks_of (c ∷ (rest ++ end)))
    ≡ joined b (c ∷ rest) (chunks_of (c ∷ rest)) ++ chunks_of end
joined-append b c rest end h1 = grind (arith, cases_Bool, joined-space, chunk-solid, joined-solid, first-append)

pub chunks-split : (start end : List ℕ) → IsBorder start end → chunks_of (start ++ end) ≡ chunks_of start ++ chunks_of
    end
chunks-split [] end border = grind (arith, chunks-empty)
chunks-split (b ∷ []) end border =
    grind (arith, cases_Bool, chunks-space, chunks-empty, chunks-step, alone, last-border)
chunks-split (b ∷ c ∷ rest) end border =
    grind (
      arith,
      tail-border,
      cases_Bool,
      chunks-space,
      chunks-step,
      joined-append,
      chunks-split (c ∷ rest) end (tail-border b c rest end border),
    )

-- ---- the first chunk with the white space after it

pub chunks-none : (text : List ℕ) → AreAll is_space text → chunks_of text ≡ []
chunks-none [] all = chunks-empty
chunks-none (b ∷ text) all =
    let parts = and_parts (is_space b) _ all in
    chunks-space b text parts.0 ∙ chunks-none text parts.1

pub chunks-whole : (text : List ℕ) → AreAll is_solid text → chunks_of text ≡ and_more text []
chunks-whole [] all = chunks-empty
chunks-whole (b ∷ []) all =
    chunks-step b [] (not-true (is_space b) (and_parts (is_solid b) true all).0)
    ∙ ap (λ (l : List (List ℕ)). (b ∷ []) ∷ l) chunks-empty
chunks-whole (b ∷ c ∷ rest) all =
    let parts = and_parts (is_solid b) _ all in
    let next = and_parts (is_solid c) _ parts.1 in
    chunks-step b (c ∷ rest) (not-true (is_space b) parts.0)
    ∙ joined-solid b c rest (chunks_of (c ∷ rest)) (not-true (is_space c) next.0)
    ∙ ap (before_first b) (chunks-whole (c ∷ rest) parts.1)

-- a text is its first chunk, with the white space after it, and the rest
pub record IsPart (text chunk rest : List ℕ) : Type 0 where
  pub part : List ℕ
  pub whole : text ≡ part ++ rest
  pub chunks : chunks_of part ≡ and_more chunk []
  pub border : IsBorder part rest

after-border : (chunk left blanks rest : List ℕ) → blanks ≡ prefix_of is_space left → left ≡ blanks ++ rest
    → BeginsWithNo is_solid left → IsBorder (chunk ++ blanks) rest
after-border chunk left [] rest are same ends = inr (subst (BeginsWithNo is_solid) same ends)
after-border chunk left (b ∷ blanks) rest are same ends =
    inl (ends-last chunk b blanks ∙ ends-all (b ∷ blanks) (subst (AreAll is_space) (sym are)
    (prefix_of-all is_space left)))

pub part-of : (text chunk rest : List ℕ) → chunk ≡ prefix_of is_solid text
    → rest ≡ rest_of is_space (rest_of is_solid text) → IsPart text chunk rest
part-of text chunk rest first after =
    let left = rest_of is_solid text in
    let blanks = prefix_of is_space left in
    let ends = rest_of-no is_solid text in
    let parted : left ≡ blanks ++ rest =
    sym (prefix_of-rest_of is_space left) ∙ ap (λ (l : List ℕ). blanks ++ l) (sym after) in
    let free : BeginsWithNo is_solid blanks =
    prefix_of-no is_solid blanks rest (subst (BeginsWithNo is_solid) parted ends) in
    record {
      part = chunk ++ blanks;
      whole =
          sym (prefix_of-rest_of is_solid text)
          ∙ ap (λ (l : List ℕ). l ++ left) (sym first)
          ∙ ap (λ (l : List ℕ). chunk ++ l) parted
          ∙ sym (append_assoc chunk blanks rest);
      chunks =
          chunks-split chunk blanks (inr free)
          ∙ ap (λ (l : List (List ℕ)). chunks_of chunk ++ l) (chunks-none blanks (prefix_of-all is_space left))
          ∙ append-nil (chunks_of chunk)
          ∙ chunks-whole chunk (subst (AreAll is_solid) (sym first) (prefix_of-all is_solid text));
      border = after-border chunk left blanks rest refl parted ends;
    }
