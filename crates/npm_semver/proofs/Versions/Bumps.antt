-- The last number of a list of identifiers: there is only one, and it is raised only below the limit.
use Rattle.std.proofs.Common.{◌≡◌, ◌≤◌, ℕ, List, [], ◌∷◌, ◌++◌, ◌≢◌, ◌⊎◌, Bool, false, length, arith, inl, inr}
use Rattle.std.proofs.Common.{Option, None, Some, Result, IfErr}
use Rattle.std.specs.List.{AllByRecursion}
use Rattle.std.specs.Prelude.{◌==◌}
use Rattle.semver_texts.specs.Identifier.{values_of}
use Rattle.semver_texts.specs.declared.identifier.Identifier.{Identifier}
use Rattle.npm_semver.specs.Bump.{BeginsNumbered, HasNoNext, IsNext, IsNextOf, IsSplitAtLastNumber, IsText}
use Rattle.npm_semver.specs.Bump.{new_identifiers}
use Rattle.semver_texts.specs.IdentifierValue.{IdentifierValue, numeric}
use Rattle.semver_texts.specs.declared.TheConstants.{MAX_SAFE_INTEGER}
use Rattle.npm_semver.specs.declared.bump.IdentifierBase.{IdentifierBase}
use Rattle.npm_semver.specs.declared.bump.IdentifierBase.TheVariants.{Absent}

-- texts have no number among them
texts-none : (before after : List IdentifierValue) (number : ℕ)
    → AllByRecursion IsText (before ++ (numeric number ∷ after)) → ⊥
texts-none [] after number all = all.0
texts-none (x ∷ before) after number all = texts-none before after number all.1

last-unique : (before before' after after' : List IdentifierValue) (number number' : ℕ)
    → before ++ (numeric number ∷ after) ≡ before' ++ (numeric number' ∷ after')
    → AllByRecursion IsText after → AllByRecursion IsText after' → number ≡ number'
last-unique [] [] after after' number number' same all all' = cc same
last-unique [] (x ∷ before') after after' number number' same all all' = grind (arith, texts-none)
last-unique (x ∷ before) [] after after' number number' same all all' = grind (arith, texts-none)
last-unique (x ∷ before) (y ∷ before') after after' number number' same all all' = grind
    (arith, last-unique before before' after after' number number')

-- where the last number is at the limit, no identifiers are next
pub no_next_at_limit : (base : IdentifierBase) (one before after : List IdentifierValue) (number : ℕ)
    → IsSplitAtLastNumber one before number after → MAX_SAFE_INTEGER ≤ number → HasNoNext None base one
no_next_at_limit base one before after number split limit other next = grind (arith, last-unique, texts-none)

-- ---- with an identifier

-- so its last number is raised
pub next_with : (identifier : IdentifierValue) (base : IdentifierBase) (one other : List IdentifierValue)
    → BeginsNumbered identifier one → IsNext None base one other → IsNext (Some identifier) base one other
next_with identifier base one other begins next = grind arith

pub no_next_with : (identifier : IdentifierValue) (base : IdentifierBase) (one : List IdentifierValue)
    → BeginsNumbered identifier one → HasNoNext None base one → HasNoNext (Some identifier) base one
no_next_with identifier base one begins none other next = elim next [
  | inl raised ↦ none other (inl raised.1)
  | inr new ↦ new.0 begins
]

-- the identifier alone would stay as it is
pub no_next_alone : (identifier : IdentifierValue) (one : List IdentifierValue) → one ≡ identifier ∷ []
    → HasNoNext (Some identifier) Absent one
no_next_alone identifier one alone other next = grind arith

pub next_new : (identifier : IdentifierValue) (base : IdentifierBase) (one other : List IdentifierValue)
    → (¬ BeginsNumbered identifier one) → (base ≡ Absent → one ≢ identifier ∷ [])
    → other ≡ new_identifiers (Some identifier) base → IsNext (Some identifier) base one other
next_new identifier base one other begins alone is = grind arith

-- an error has one of two reasons; the second gives another
pub other-reason : {A E : Type 0} → (Memory Reason Other : E → Type 0) (result : Result A E)
    → ((e : E) → Reason e → Other e) → IfErr result (λ e. Memory e ⊎ Reason e) → IfErr result (λ e. Memory e ⊎ Other e)
other-reason Memory Reason Other result gives reasons = grind arith

-- what follows the prerelease of a version that has one
pub next-of_some : (identifier : Option IdentifierValue) (base : IdentifierBase) (one other : List IdentifierValue)
    → one ≢ [] → IsNextOf identifier base one other → IsNext identifier base one other
next-of_some identifier base one other some next = grind arith

-- identifiers that are not empty
pub some-identifiers : (identifiers : List Identifier) (empty : Bool) → empty ≡ (length identifiers == 0)
    → empty ≡ false → values_of identifiers ≢ []
some-identifiers [] empty is none same = cc (is, none)
some-identifiers (x ∷ xs) empty is none same = cc same
