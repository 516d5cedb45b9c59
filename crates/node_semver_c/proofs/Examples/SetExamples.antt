-- Worked examples: what C finds in a set that a call has written.
use Rattle.std.proofs.Common.{◌≡◌, ◌⊎◌, ◌↔◌, ℕ, sym, ◌∙◌, inl, inr, arith}
use Rattle.std.specs.Prelude.{Option, Some, None}
use Rattle.node_semver_c.specs.Sets.{IsSetReported}
use Rattle.node_semver_c.specs.declared.handle.set.CutHandle.{CutHandle}
use Rattle.node_semver_c.specs.declared.handle.set.SetHandle.{SetHandle}
use Rattle.semver_cuts.specs.declared.cut.Cut.TheVariants.{Start, Before, After, End}
use Rattle.semver_cuts.specs.Ends.{span_between}
use Rattle.semver_texts.specs.Version.{VersionValue}

-- a cut has this kind and this version
abbrev pub Has : ℕ → Option VersionValue → CutHandle → Type 0
Has kind v cut = (cut.kind ≡ kind) × (cut.version.value ≡ v)

-- this status, and both handles are empty
abbrev pub IsEmptyWith : ℕ → ℕ → SetHandle → Type 0
IsEmptyWith wanted status written =
    (status ≡ wanted) × ((written.lower.version.value ≡ None) × (written.upper.version.value ≡ None))

-- `>1.2.3 <2.0.0-0`: above the one version and below the other; or out of memory
pub two-versions : (v w : VersionValue) (status : ℕ) (written : SetHandle)
    → IsSetReported (Some (span_between (After v) (Before w))) status written
    ↔ (((status ≡ 0) × (Has 2 (Some v) written.lower × Has 1 (Some w) written.upper)) ⊎ IsEmptyWith 4 status written)
two-versions v w status written = (λ s. s, λ s. s)

-- `<=1.2.3`: no lower version, and above the upper one
pub no-lower-version : (v : VersionValue) (status : ℕ) (written : SetHandle)
    → IsSetReported (Some (span_between Start (After v))) status written
    ↔ (((status ≡ 0) × (Has 0 None written.lower × Has 2 (Some v) written.upper)) ⊎ IsEmptyWith 4 status written)
no-lower-version v status written = (λ s. s, λ s. s)

-- `>=1.2.3`: below the lower version, and no upper one
pub no-upper-version : (v : VersionValue) (status : ℕ) (written : SetHandle)
    → IsSetReported (Some (span_between (Before v) End)) status written
    ↔ (((status ≡ 0) × (Has 1 (Some v) written.lower × Has 3 None written.upper)) ⊎ IsEmptyWith 4 status written)
no-upper-version v status written = (λ s. s, λ s. s)

-- past the last set: status 1; or out of memory
pub past-the-last : (status : ℕ) (written : SetHandle)
    → IsSetReported None status written ↔ (IsEmptyWith 1 status written ⊎ IsEmptyWith 4 status written)
past-the-last status written = (λ s. s, λ s. s)

-- no call writes a version below every version
pub no-version-at-the-start : (v w : VersionValue) (status : ℕ) (written : SetHandle)
    → written.lower.version.value ≡ Some v
    → ¬ IsSetReported (Some (span_between Start (After w))) status written
no-version-at-the-start v w status written holds s = elim s [
  | inl found ↦ cc (sym holds ∙ found.1.0.1)
  | inr failed ↦ cc (sym holds ∙ failed.1.0)
]

-- no call succeeds past the last set
pub no-success-past-the-last : (written : SetHandle) → ¬ IsSetReported None 0 written
no-success-past-the-last written s = elim s [
  | inl none ↦ absurd (omega (arith, none.0))
  | inr failed ↦ absurd (omega (arith, failed.0))
]
