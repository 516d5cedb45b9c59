-- Worked examples: the status and the fault of a text that is refused.
use Rattle.std.proofs.Common.{◌≡◌, ◌↔◌, ℕ, List, codes, sym, subst}
use Rattle.std.specs.Prelude.{Option, None, Err}
use Rattle.semver_texts.specs.Version.{VersionValue}
use Rattle.semver_versions.specs.Error.{IsOutOfMemory, IsRefusalAt, Kind, Refusal, context, max_int}
use Rattle.semver_versions.specs.declared.error.SemverError.{SemverError}
use Rattle.node_semver_c.specs.Answers.{IsReported}
use Rattle.node_semver_c.specs.Status.{IsRefusalReported, code_of, number_in, status_of}
use Rattle.node_semver_c.specs.declared.status.Fault.{Fault}

-- the handle stays empty, and the status and the three numbers of the fault are these
abbrev pub Reports : ℕ → ℕ → ℕ → ℕ → ℕ → Option VersionValue → Fault → Type 0
Reports wanted kind offset number status held fault =
    (status ≡ wanted) × (held ≡ None) × (fault.kind ≡ kind) × (fault.offset ≡ offset) × (fault.number ≡ number)

-- this status and these numbers report an error, and no others do
abbrev pub IsReportedBy : SemverError → ℕ → ℕ → ℕ → ℕ → Type 0
IsReportedBy e wanted kind offset number = (status : ℕ) (held : Option VersionValue) (fault : Fault)
    → IsReported (Err e) status held fault ↔ Reports wanted kind offset number status held fault

abbrev RefusalReported : ℕ → Fault → Refusal → Type 0
RefusalReported status fault refusal = IsRefusalReported refusal status fault

reported-by : (text : List ℕ) (kind : Kind) (offset : ℕ) (e : SemverError) → IsRefusalAt text kind offset e
    → IsReportedBy e (status_of kind) (code_of kind) offset (number_in kind)
reported-by text kind offset e is status held fault = (
  λ reported. let by = subst (RefusalReported status fault) is reported.0 in
      (by.status_is, reported.1, by.kind, by.offset, by.number),
  λ all. (
    subst (RefusalReported status fault) (sym is)
        (record { status_is = all.0; kind = all.2; offset = all.3; number = all.4 }),
    all.1,
  ),
)

-- `1.2` lacks its third number: kind 5 at 3, number 0
pub missing-reported : (e : SemverError) → IsRefusalAt (codes "1.2") (context (codes "version")) 3 e
    → IsReportedBy e 2 5 3 0
missing-reported e is = reported-by _ _ _ e is

-- the number of `1.2.9007199254740992` is too large: kind 4 at 4, and the number
pub large-reported : (e : SemverError) → IsRefusalAt (codes "1.2.9007199254740992") (max_int 9007199254740992) 4 e
    → IsReportedBy e 2 4 4 9007199254740992
large-reported e is = reported-by _ _ _ e is

-- out of memory has a status of its own, and kind 8 at 0
pub memory-reported : (e : SemverError) → IsOutOfMemory e → IsReportedBy e 4 8 0 0
memory-reported e is = reported-by _ _ _ e is
