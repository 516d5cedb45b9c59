-- The report of a lock file as findings.
use Rattle.std.specs.Prelude.{◌≡◌, ◌≤◌, ◌⊎◌, ◌++◌, All, Contains, List, false, is_some, length, map, replicate, true}
use Rattle.npm_advisories.specs.Audit.{FoundValue}
use Rattle.npm_advisories.specs.Severities.{rank}
use Rattle.npm_advisories.specs.declared.advisory.About.{About}
use Rattle.npm_advisories.specs.declared.severity.Severity.{Severity}
use Rattle.npm_advisories.specs.declared.severity.Severity.TheVariants.{Unknown}
use Rattle.npm_lock_reports.specs.Lines.{thing_count}
use Rattle.npm_lock_reports.specs.declared.report.Report.{Report}
use Rattle.npm_lock_findings.specs.declared.finding.Finding.{Finding}

-- One finding for each thing that has a line, and then one for each hit that is excepted, which alone is suppressed: it does not count.
abbrev pub AreFindings : Report → (found : List FoundValue) → List Finding → Type 0
AreFindings report found findings = map (λ finding. is_some finding.suppression) findings
    ≡ replicate (thing_count report found) false ++ replicate (length report.excepted.items) true

-- The severity of the most severe of these hits: none is above it, and one has it; `Unknown` if the severity of none is known.
pub record IsMostSevere (hits : List About) (most : Severity) : Type 0 where
  pub least : All (λ about. rank about.severity ≤ rank most) hits
  pub of_one : (most ≡ Unknown) ⊎ ((about : About) × Contains hits about × (about.severity ≡ most))
