-- The keys of texts and of identifiers, one byte and one identifier at a time.
use Rattle.std.proofs.Common.{◌≡◌, ◌++◌, ℕ, List, [], ◌∷◌, refl}
use Rattle.semver_texts.specs.IdentifierValue.{IdentifierValue, alphanumeric, numeric}
use Rattle.semver_keys.specs.IdentifierKey.{byte_key, identifier_key, identifiers_key, prerelease_key, text_key}
use Rattle.semver_keys.specs.NumberKey.{number_key}

pub text-end : text_key [] ≡ 0 ∷ []
unfolding text_key
text-end = refl

pub text-more : (b : ℕ) (bs : List ℕ) → text_key (b ∷ bs) ≡ byte_key b ++ text_key bs
unfolding text_key
text-more b bs = refl

pub number-is : (n : ℕ) → identifier_key (numeric n) ≡ 1 ∷ number_key n
unfolding identifier_key
number-is n = refl

pub text-is : (text : List ℕ) → identifier_key (alphanumeric text) ≡ 2 ∷ text_key text
unfolding identifier_key
text-is text = refl

pub identifiers-end : identifiers_key [] ≡ 0 ∷ []
unfolding identifiers_key
identifiers-end = refl

pub identifiers-more : (x : IdentifierValue) (xs : List IdentifierValue)
    → identifiers_key (x ∷ xs) ≡ identifier_key x ++ identifiers_key xs
unfolding identifiers_key
identifiers-more x xs = refl

pub release-is : (xs : List IdentifierValue) → xs ≡ [] → prerelease_key xs ≡ 255 ∷ []
unfolding prerelease_key
release-is [] h = refl
release-is (x ∷ xs) h = cc h

pub prerelease-is : (xs : List IdentifierValue) → (xs ≡ [] → ⊥) → prerelease_key xs ≡ identifiers_key xs
unfolding prerelease_key
prerelease-is [] h = absurd (h refl)
prerelease-is (x ∷ xs) h = refl
