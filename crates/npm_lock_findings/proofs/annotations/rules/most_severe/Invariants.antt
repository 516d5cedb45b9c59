-- None of the hits so far is above it, and a hit has it.
use Rattle.std.proofs.Common.{◌≡◌, ◌≤◌, ◌⊎◌, All, take}
use Rattle.std.specs.List.{Contains}
use Rattle.npm_advisories.specs.Severities.{rank}
use Rattle.npm_advisories.specs.declared.advisory.About.{About}
use Rattle.npm_advisories.specs.declared.severity.Severity.TheVariants.{Unknown}
use Rattle.npm_lock_findings.proofs.annotations.rules.most_severe.Given as goal

abbrev pub invariant-loop-about : goal.invariant-loop-about
invariant-loop-about l = All (λ about. rank about.severity ≤ rank l.most) (take l.about-index l.hits)
    × ((l.most ≡ Unknown) ⊎ ((about : About) × Contains l.hits about × (about.severity ≡ l.most)))
