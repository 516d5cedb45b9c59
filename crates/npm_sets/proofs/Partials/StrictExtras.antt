-- Extras in strict form: the reader's test lets exactly these texts through.
use Rattle.std.proofs.Common.{◌≡◌, ℕ, true, false, List, [], ◌∷◌, ◌++◌, sym, ap, ◌∙◌, arith, inl, inr}
use Rattle.std.proofs.Common.{append-nil}
use Rattle.std.proofs.lemmas.Bool.Decides.{nat_tests}
use Rattle.std.specs.Prelude.{◌==◌}
use Rattle.std.specs.List.{list_all}
use Rattle.semver_texts.specs.Characters.{BeginsWithNo, hyphen}
use Rattle.semver_texts.specs.IdentifierText.{IsBuildText, IsExtrasText, IsIdentifierList, IsPrereleaseText, parts_of}
use Rattle.semver_texts.specs.IdentifierValue.{IdentifierValue}
use Rattle.semver_texts.specs.Reading.{read_extras}
use Rattle.semver_texts.specs.Lemmas.Public.{extras-again, extras-takes, parts-shape}
use Rattle.npm_sets.specs.PartialGrammar.{IsStrictPrerelease, is_unpadded}
use Rattle.npm_sets.specs.PartialTexts.{are_strict, has_none_padded}
use Rattle.npm_sets.proofs.Partials.ListedZeros.{EndsList, list-none}

-- a build follows a prerelease, or nothing does
build-ends : (text : List ℕ) (build : List IdentifierValue) → IsBuildText text build → EndsList text
unfolding has_none_padded
build-ends text [] h = grind arith
build-ends text (i ∷ is) h = grind arith

build-strict : (text : List ℕ) (build : List IdentifierValue) → IsBuildText text build → are_strict text ≡ true
build-strict text [] h = grind arith
build-strict text (i ∷ is) h = grind arith

-- after a hyphen the reader tests the identifiers
hyphen-strict : (list rest : List ℕ) (prerelease build : List IdentifierValue) → IsIdentifierList list prerelease
    → IsBuildText rest build → are_strict (hyphen ∷ (list ++ rest)) ≡ list_all is_unpadded (parts_of list)
hyphen-strict list rest prerelease build read behind =
    list-none list rest read.parts (build-ends rest build behind)

-- without a hyphen they are not strict
bare-strict : (list rest : List ℕ) (prerelease : List IdentifierValue) → IsIdentifierList list prerelease
    → BeginsWithNo (λ b. b == hyphen) list → are_strict (list ++ rest) ≡ false
bare-strict [] rest prerelease read none = absurd read.parts.0.0
bare-strict (b ∷ list) rest prerelease read none = grind (arith, parts-shape (b ∷ list), nat_tests)

-- what the test lets through has a strict prerelease
before-strict : (prefix rest : List ℕ) (prerelease build : List IdentifierValue) → IsPrereleaseText prefix prerelease
    → IsBuildText rest build → are_strict (prefix ++ rest) ≡ true → IsStrictPrerelease prefix
before-strict prefix rest [] build h behind strict = grind arith
before-strict prefix rest (i ∷ is) build (list, inl with_hyphen, read) behind strict =
    grind (arith, hyphen-strict list rest (i ∷ is) build read behind)
before-strict prefix rest (i ∷ is) build (list, inr bare, read) behind strict =
    grind (arith, bare-strict list rest (i ∷ is) read bare.1)

pub strict-takes : (text : List ℕ) (prerelease build : List IdentifierValue) (h : IsExtrasText text prerelease build)
    → are_strict text ≡ true → IsStrictPrerelease h.prefix
strict-takes text prerelease build h strict =
    before-strict h.prefix h.rest prerelease build h.first h.second (sym (ap are_strict h.whole) ∙ strict)

-- and the other way round
with-strict : (prefix rest : List ℕ) (prerelease build : List IdentifierValue) → IsPrereleaseText prefix prerelease
    → IsBuildText rest build → IsStrictPrerelease prefix → are_strict (prefix ++ rest) ≡ true
with-strict prefix rest [] build h behind strict = grind (arith, build-strict rest build behind)
with-strict prefix rest (i ∷ is) build (list, inl with_hyphen, read) behind strict =
    grind (arith, hyphen-strict list rest (i ∷ is) build read behind)
with-strict prefix rest (i ∷ is) build (list, inr bare, read) behind strict = grind arith

pub strict-again : (text : List ℕ) (prerelease build : List IdentifierValue) (h : IsExtrasText text prerelease build)
    → IsStrictPrerelease h.prefix → are_strict text ≡ true
strict-again text prerelease build h strict =
    ap are_strict h.whole ∙ with-strict h.prefix h.rest prerelease build h.first h.second strict

-- ---- whole texts

-- the extras that are read of a text are all of it, if nothing is left
pub extras-taken : (text : List ℕ) → (read_extras text).1 ≡ []
    → IsExtrasText text (read_extras text).0.0 (read_extras text).0.1
extras-taken text none = grind (arith, extras-takes text, append-nil)

pub extras-read : (text : List ℕ) (prerelease build : List IdentifierValue) → IsExtrasText text prerelease build
    → read_extras text ≡ ((prerelease, build), [])
extras-read text prerelease build h =
    sym (ap read_extras (append-nil text)) ∙ extras-again text [] prerelease build h tt
