-- What is known of a bump by its codes and the text of its identifier.
use Rattle.std.proofs.Common.{◌≡◌, ◌∙◌, ℕ, List, [], ◌∷◌, ap, arith, eqb→eq, refl, sym, subst, inl, inr}
use Rattle.std.specs.Prelude.{◌≢◌, ◌==◌, true, false, length, Option, Some, None, nat_eq, if◌then◌else◌}
use Rattle.node_semver_c.specs.Bumped.{IsBumpReported, IsBumpedAs, IsIdentifierGiven, IsNoIdentifier, IsRaised}
use Rattle.node_semver_c.specs.Bumped.{IsUnknown, code_of_base}
use Rattle.node_semver_c.specs.Bumped.{bumped, no_memory, none, raised, refused, unmade}
use Rattle.node_semver_c.specs.Compared.{code_of_bump}
use Rattle.node_semver_c.specs.Status.{IsKept}
use Rattle.npm_semver.specs.Bump.{IsBumped}
use Rattle.semver_texts.specs.IdentifierText.{IsIdentifierText}
use Rattle.semver_texts.specs.IdentifierValue.{IdentifierValue}
use Rattle.semver_texts.specs.Version.{VersionValue}
use Rattle.npm_semver.specs.declared.bump.Bump.{Bump}
use Rattle.npm_semver.specs.declared.bump.Bump.TheVariants.{Major, PreMajor, Minor, PreMinor}
use Rattle.npm_semver.specs.declared.bump.Bump.TheVariants.{Patch, PrePatch, PreRelease, Pre}
use Rattle.npm_semver.specs.declared.bump.IdentifierBase.{IdentifierBase}
use Rattle.npm_semver.specs.declared.bump.IdentifierBase.TheVariants.{Absent, One, Zero}

-- ---- codes

-- the bump of a code
abbrev bump_at : ℕ → Bump
bump_at code =
    if nat_eq code 1 then Major else if nat_eq code 2 then PreMajor else if nat_eq code 3 then Minor
    else if nat_eq code 4 then PreMinor else if nat_eq code 5 then Patch else if nat_eq code 6 then PrePatch
    else if nat_eq code 7 then PreRelease else Pre

bump_again : (bump : Bump) → bump_at (code_of_bump bump) ≡ bump
bump_again Major = refl
bump_again PreMajor = refl
bump_again Minor = refl
bump_again PreMinor = refl
bump_again Patch = refl
bump_again PrePatch = refl
bump_again PreRelease = refl
bump_again Pre = refl

same_bump : (one other : Bump) → code_of_bump one ≡ code_of_bump other → one ≡ other
same_bump one other e = sym (bump_again one) ∙ ap bump_at e ∙ bump_again other

-- the base of a code
abbrev base_at : ℕ → IdentifierBase
base_at code = if nat_eq code 0 then Zero else if nat_eq code 1 then One else Absent

base_again : (base : IdentifierBase) → base_at (code_of_base base) ≡ base
base_again Zero = refl
base_again One = refl
base_again Absent = refl

same_base : (one other : IdentifierBase) → code_of_base one ≡ code_of_base other → one ≡ other
same_base one other e = sym (base_again one) ∙ ap base_at e ∙ base_again other

pub known : (bump : Bump) (base : IdentifierBase) → ¬ IsUnknown (code_of_bump bump) (code_of_base base)
known bump base (inl none_has) = none_has bump refl
known bump base (inr none_has) = none_has base refl

-- ---- identifiers

given-is : (text : List ℕ) (identifier : Option IdentifierValue) → IsIdentifierGiven text identifier
    → ¬ IsNoIdentifier text
given-is text None empty other = other.0 empty
given-is text (Some identifier) given other = other.1 given.0

no-empty : ¬ IsIdentifierText []
no-empty is = is.0

same_identifier : (text : List ℕ) (one other : Option IdentifierValue) → IsIdentifierGiven text one
    → IsIdentifierGiven text other → one ≡ other
same_identifier text None None e f = refl
same_identifier text None (Some i) e f = absurd (no-empty (subst IsIdentifierText e f.0))
same_identifier text (Some i) None e f = absurd (no-empty (subst IsIdentifierText f e.0))
same_identifier text (Some i) (Some j) e f = ap Some (sym e.1 ∙ f.1)

pub empty-text : (text : List ℕ) → (length text == 0) ≡ true → text ≡ []
empty-text [] e = refl
empty-text (b ∷ text) e =
    let zero : length (b ∷ text) ≡ 0 = eqb→eq _ _ (rw e tt) in
    absurd (omega (arith, zero))

pub filled-text : (text : List ℕ) → (length text == 0) ≡ false → text ≢ []
filled-text [] e empty = cc
filled-text (b ∷ text) e empty = cc

-- ---- results

-- a version that was kept
pub raised-of : (Is : VersionValue → Type 0) (w : VersionValue) (status : ℕ) (held : Option VersionValue) → Is w
    → IsKept w status held → IsRaised Is status held
raised-of Is w status held is (inl kept) = raised w is kept.0 kept.1
raised-of Is w status held is (inr out) = unmade out.0 out.1

bumped-by : (bump : Bump) (text : List ℕ) (base : IdentifierBase) (v w : VersionValue)
    (identifier : Option IdentifierValue) → IsIdentifierGiven text identifier
    → IsBumpedAs (code_of_bump bump) text (code_of_base base) v w → IsBumped bump identifier base v w
bumped-by bump text base v w identifier given asked =
    subst (λ (b : Bump). IsBumped b identifier base v w) (same_bump asked.by bump asked.code)
    (subst (λ (i : Option IdentifierValue). IsBumped asked.by i base v w)
    (same_identifier text asked.identifier identifier asked.given given)
    (subst (λ (b : IdentifierBase). IsBumped asked.by asked.identifier b v w)
    (same_base asked.start base asked.start_code)
    asked.bumped))

-- the bump of a known identifier, base and bump is the one that was asked for
pub reported-of : (bump : Bump) (text : List ℕ) (base : IdentifierBase) (v : VersionValue)
    (identifier : Option IdentifierValue) (status : ℕ) (held : Option VersionValue)
    → IsIdentifierGiven text identifier → IsRaised (IsBumped bump identifier base v) status held
    → IsBumpReported (code_of_bump bump) text (code_of_base base) v status held
reported-of bump text base v identifier status held given (raised w is ok kept) =
    bumped w (record {
      by = bump;
      identifier = identifier;
      start = base;
      code = refl;
      start_code = refl;
      given = given;
      bumped = is;
    }) ok kept
reported-of bump text base v identifier status held given (none isnt why empty) =
    refused (known bump base) (given-is text identifier given)
    (λ w asked. isnt w (bumped-by bump text base v w identifier given asked)) why empty
reported-of bump text base v identifier status held given (unmade out empty) = no_memory out empty
