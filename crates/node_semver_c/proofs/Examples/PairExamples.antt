-- Worked examples: the status, the result and the fault of one call with two texts.
use Rattle.std.proofs.Common.{◌≡◌, ◌↔◌, ℕ, List, Bool, IsTrue, subst}
use Rattle.node_semver_c.specs.Pair.{IsAnswered, answered, refused}
use Rattle.node_semver_c.specs.Status.{IsFaultReported}
use Rattle.node_semver_c.specs.declared.status.Fault.{Fault}
use Rattle.semver_versions.specs.Error.{Kind}
use Rattle.semver_versions.specs.Fault.{IsFault}
use Rattle.semver_versions.specs.Lemmas.Public.{one_fault, one_reading, version-no_fault}
use Rattle.semver_texts.specs.Version.{VersionValue}
use Rattle.semver_texts.specs.VersionText.{IsVersionText}

-- a version text, as `1.2.3`: status 0, and true exactly where its version is admitted
pub version-answered : (Admits : VersionValue → Type 0) (text : List ℕ) (v : VersionValue) (status : ℕ) (answer : Bool)
    (fault : Fault) → IsVersionText text v
    → IsAnswered Admits text status answer fault ↔ ((status ≡ 0) × (IsTrue answer ↔ Admits v))
version-answered Admits text v status answer fault is = (
  λ s. elim s [
    | answered w isw ok says ↦
        (ok, subst (λ (x : VersionValue). IsTrue answer ↔ Admits x) (one_reading text w v isw is) says)
    | refused kind offset wrong reported ↦ absurd (version-no_fault text v kind offset is wrong)
  ],
  λ s. answered v is s.0 s.1,
)

-- a text with a fault, as `1.2`: the fault is reported
pub fault-reported : (Admits : VersionValue → Type 0) (text : List ℕ) (kind : Kind) (offset : ℕ) (status : ℕ)
    (answer : Bool) (fault : Fault) → IsFault text kind offset
    → IsAnswered Admits text status answer fault ↔ IsFaultReported kind offset status fault
fault-reported Admits text kind offset status answer fault is = (
  λ s. elim s [
    | answered w isw ok says ↦ absurd (version-no_fault text w kind offset isw is)
    | refused found place wrong reported ↦
        let same = one_fault text found kind place offset wrong is in
        subst (λ (k : Kind). IsFaultReported k offset status fault) same.0
        (subst (λ (n : ℕ). IsFaultReported found n status fault) same.1 reported)
  ],
  λ s. refused kind offset is s,
)
