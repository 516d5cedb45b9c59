-- Candidates that a range allows, by their places.
use Rattle.std.proofs.Common.{◌≡◌, ◌<◌, ◌++◌, ◌∷◌, ℕ, zero, suc, List, [], Bool, true, false, Some, arith, length, refl, unwrap_or}
use Rattle.std.specs.Prelude.{slice_get}
use Rattle.npm_resolve.specs.Meanings.{IsAdmitted, MeaningValue}
use Rattle.npm_resolve.specs.declared.candidates.candidate.Candidate.{Candidate}
use Rattle.npm_resolve_laws.specs.Firsts.{AdmitsNone}
use Rattle.npm_resolve.specs.Instance.{AreAllowed}

abbrev pub is_allowed : List Bool → ℕ → Bool
is_allowed allowed c = unwrap_or (slice_get allowed c) false

module _ (meaning : MeaningValue) where
  -- the first that is admitted stands at the first place that is allowed
  pub at_place : (before after : List Candidate) (first : Candidate) (allowed : List Bool) → AreAllowed meaning (before ++ first ∷ after) allowed
      → AdmitsNone meaning before → IsAdmitted meaning first → (c : ℕ) → is_allowed allowed c ≡ true
      → ((better : ℕ) → better < c → is_allowed allowed better ≡ true → ⊥) → slice_get (before ++ first ∷ after) c ≡ Some first
  at_place [] after first [] zip none admitted c on never = absurd zip
  at_place [] after first (b ∷ allowed) zip none admitted zero on never = refl
  at_place [] after first (b ∷ allowed) zip none admitted (suc c) on never =
      absurd (never zero (omega arith) (zip.0.1 admitted))
  at_place (x ∷ before) after first [] zip none admitted c on never = absurd zip
  at_place (x ∷ before) after first (b ∷ allowed) zip none admitted zero on never = absurd (none.0 (zip.0.0 on))
  at_place (x ∷ before) after first (b ∷ allowed) zip none admitted (suc c) on never =
      at_place before after first allowed zip.1 none.1 admitted c on (λ better below. never (suc better) (omega (arith, below)))

  -- where none is admitted, no place is allowed
  pub no_place : (cs : List Candidate) (allowed : List Bool) → AreAllowed meaning cs allowed → AdmitsNone meaning cs → (c : ℕ)
      → is_allowed allowed c ≡ true → ⊥
  no_place [] [] zip none c on = cc on
  no_place [] (b ∷ allowed) zip none c on = absurd zip
  no_place (x ∷ cs) [] zip none c on = absurd zip
  no_place (x ∷ cs) (b ∷ allowed) zip none zero on = none.0 (zip.0.0 on)
  no_place (x ∷ cs) (b ∷ allowed) zip none (suc c) on = no_place cs allowed zip.1 none.1 c on

  -- where one is admitted, a place is
  pub some_place : (before after : List Candidate) (first : Candidate) (allowed : List Bool)
      → AreAllowed meaning (before ++ first ∷ after) allowed → IsAdmitted meaning first
      → (c : ℕ) × (c < length (before ++ first ∷ after)) × (is_allowed allowed c ≡ true)
  some_place [] after first [] zip admitted = absurd zip
  some_place [] after first (b ∷ allowed) zip admitted = (zero, omega arith, zip.0.1 admitted)
  some_place (x ∷ before) after first [] zip admitted = absurd zip
  some_place (x ∷ before) after first (b ∷ allowed) zip admitted =
      let at = some_place before after first allowed zip.1 admitted in (suc at.0, omega (arith, at.1), at.2)
