-- Where faults go on behind the versions where they are introduced, one event after another.
use Rattle.std.proofs.Common.{◌≡◌, ◌↔◌, ◌∙◌, ◌⊎◌, ◌++◌, ◌∷◌, [], ℕ, List, Option, Some, None, ap, arith, false, inl, inr, refl}
use Rattle.std.proofs.Common.{subst, sym}
use Rattle.std.specs.List.{Contains}
use Rattle.std.specs.Option.{option_map_or, option_or}
use Rattle.std.proofs.lemmas.List.Elements.{Contains-append_left, Contains-push, Contains-push_cases}
use Rattle.serde_json.specs.Data.{Data, Items, item}
use Rattle.semver_versions.specs.Lemmas.Public.{one_reading}
use Rattle.node_semver.specs.Cuts.{After, Cut}
use Rattle.node_semver.specs.Ranges.{IsRangeCut}
use Rattle.node_semver.specs.Versions.{IsVersionText, VersionValue}
use Rattle.npm_advisories.specs.Faults.{first_fault}
use Rattle.npm_advisories.specs.OsvFaults.{event_fault, has_place}
use Rattle.npm_advisories.specs.OsvForm.{event_of, events_of}
use Rattle.npm_advisories.specs.OsvRanges.{EventValue, GoesOn, GoesOnBehind, fixed, introduced, is_last, last_affected}
use Rattle.npm_advisories.specs.OsvRanges.{limit}
use Rattle.npm_advisories.specs.Private.OsvReading.{IsGoingOn}
use Rattle.npm_advisories.specs.declared.fault.FaultKind.{FaultKind}

-- an event goes on at one cut at most
goes-once : (event : EventValue) (others : List EventValue) (c d : Cut VersionValue) → GoesOnBehind event others c
    → GoesOnBehind event others d → c ≡ d
goes-once (introduced text) others c d one other =
    one.3 ∙ ap After (one_reading text one.0 other.0 one.1 other.1) ∙ sym other.3
goes-once (fixed text) others c d one other = absurd one
goes-once (last_affected text) others c d one other = absurd one
goes-once (limit text) others c d one other = absurd one

-- the cuts so far, and those of the events that are left
abbrev pub AreSoFar : (whole left : List EventValue) → (cuts : List (Cut VersionValue)) → Type 0
AreSoFar whole left cuts = (cut : Cut VersionValue) → GoesOn whole cut ↔ (Contains cuts cut ⊎ GoesOn left cut)

pub none-so-far : (whole : List EventValue) → AreSoFar whole whole []
none-so-far whole cut = (
  λ is. inr is,
  λ is. elim is [
    | inl has ↦ absurd (omega (arith, has.1))
    | inr there ↦ there
  ],
)

pub all-so-far : (whole : List EventValue) (cuts : List (Cut VersionValue)) → AreSoFar whole [] cuts
    → (cut : Cut VersionValue) → GoesOn whole cut ↔ Contains cuts cut
all-so-far whole cuts so_far cut = (
  λ is. elim ((so_far cut).0 is) [
    | inl has ↦ has
    | inr none ↦ absurd none
  ],
  λ has. (so_far cut).1 (inl has),
)

module _ (whole others : List EventValue) (cuts : List (Cut VersionValue)) where
  -- a value that is no event
  pub so-far-passed : (event : Option EventValue)
      → AreSoFar whole (option_map_or (λ e. e ∷ []) event [] ++ others) cuts → IsGoingOn event others None
      → AreSoFar whole others cuts
  so-far-passed None so_far none = so_far
  so-far-passed (Some event) so_far none = λ cut. (
    λ is. elim ((so_far cut).0 is) [
      | inl has ↦ inl has
      | inr there ↦ elim there [
        | inl here ↦ absurd (none cut here)
        | inr later ↦ inr later
      ]
    ],
    λ is. elim is [
      | inl has ↦ (so_far cut).1 (inl has)
      | inr later ↦ (so_far cut).1 (inr (inr later))
    ],
  )

  pub so-far-more : (event : Option EventValue) (found : Cut VersionValue)
      → AreSoFar whole (option_map_or (λ e. e ∷ []) event [] ++ others) cuts → IsGoingOn event others (Some found)
      → AreSoFar whole others (cuts ++ found ∷ [])
  so-far-more None found so_far none = absurd (cc none)
  so-far-more (Some event) found so_far is_at = λ cut. (
    λ is. elim ((so_far cut).0 is) [
      | inl has ↦ inl (Contains-append_left cuts (found ∷ []) cut has)
      | inr there ↦ elim there [
        | inl here ↦ inl (subst (Contains (cuts ++ found ∷ [])) (goes-once event others found cut is_at.0 here)
            (Contains-push cuts found))
        | inr later ↦ inr later
      ]
    ],
    λ is. elim is [
      | inl has ↦ elim (Contains-push_cases cuts found cut has) [
        | inl before ↦ (so_far cut).1 (inl before)
        | inr here ↦ (so_far cut).1 (inr (inl (subst (GoesOnBehind event others) here is_at.0)))
      ]
      | inr later ↦ (so_far cut).1 (inr (inr later))
    ],
  )

  pub each-more : (event : Option EventValue) (found : Cut VersionValue) → IsGoingOn event others (Some found)
      → ((cut : Cut VersionValue) → Contains cuts cut → IsRangeCut cut) → (cut : Cut VersionValue)
      → Contains (cuts ++ found ∷ []) cut → IsRangeCut cut
  each-more None found none each cut has = absurd (cc none)
  each-more (Some event) found is_at each cut has = elim (Contains-push_cases cuts found cut has) [
    | inl before ↦ each cut before
    | inr here ↦ subst IsRangeCut here is_at.1
  ]

-- ---- events without a fault

either-none : {A : Type 0} (a b : Option A) → option_or a b ≡ None → (a ≡ None) × (b ≡ None)
either-none None b none = (refl, none)
either-none (Some x) b none = absurd (cc none)

module _ (fault_of : Data → Option FaultKind) (one : Data) (others : Items) where
  pub first-none : first_fault fault_of (item one others) ≡ None
      → (fault_of one ≡ None) × (first_fault fault_of others ≡ None)
  first-none none = either-none (fault_of one) (first_fault fault_of others) none
