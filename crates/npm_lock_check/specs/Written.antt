-- The output for lock files.
use Rattle.std.specs.Prelude.{◌≡◌, ℕ, List, []}
use Rattle.std.specs.List.{flat_map}
use Rattle.npm_advisories.specs.Audit.{FoundValue}
use Rattle.npm_lock_reports.specs.Lines.{line_count, thing_count}
use Rattle.npm_lock_reports.specs.declared.report.Report.{Report}
use Rattle.npm_lock_findings.specs.Findings.{AreFindings}
use Rattle.npm_lock_check.specs.declared.checks.format.Format.{Format}
use Rattle.npm_lock_check.specs.declared.checks.format.Format.TheVariants as Formats
use Rattle.npm_lock_check.specs.declared.checks.output.Output.{Output}

-- Of one lock file: a line for each thing that is found, or a finding. The part of a page is tested.
abbrev pub IsOutput : Format → Report → List FoundValue → Output → Type 0
IsOutput (Formats.Report format) report found output =
    (line_count output.lines.items ≡ thing_count report found) × (output.findings.items ≡ [])
IsOutput (Formats.Annotations format) report found output =
    AreFindings report found output.findings.items × (output.lines.items ≡ [])
IsOutput (Formats.Pages format) report found output = output.findings.items ≡ []

-- Of all lock files: their lines, one file after the other. Annotations, logs and pages are tested.
abbrev pub IsWritten : Format → List Output → (text : List ℕ) → Type 0
IsWritten (Formats.Report format) outputs text = text ≡ flat_map (λ output. output.lines.items) outputs
IsWritten (Formats.Annotations format) outputs text = Unit {0}
IsWritten (Formats.Pages format) outputs text = Unit {0}
