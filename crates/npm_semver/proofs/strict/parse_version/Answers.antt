use Rattle.std.proofs.Common.{◌∙◌, ap}
use Rattle.semver_texts.specs.Version.{VersionValue}
use Rattle.npm_semver.proofs.strict.parse_version.Goals as goal

pub returns-in-Ok-to_version-clause-only : goal.returns-in-Ok-to_version-clause-only
returns-in-Ok-to_version-clause-only c = λ v h. c.in-Ok-to_version.ensures.copy ∙ c.in-Ok.ensures.only v h

pub returns-in-Err-to_version-clause-plain : goal.returns-in-Err-to_version-clause-plain
returns-in-Err-to_version-clause-plain c = λ v h pre_release build.
    let same = c.in-Ok.ensures.only v h in
    c.in-Err-to_version.ensures.plain (record {
      pre_release = ap (λ (w : VersionValue). w.pre_release) same ∙ pre_release;
      build = ap (λ (w : VersionValue). w.build) same ∙ build;
    })

pub returns-in-Err-clause-only : goal.returns-in-Err-clause-only
returns-in-Err-clause-only c = λ v h. absurd (c.in-Err.ensures.only v h)

pub returns-in-Err-clause-plain : goal.returns-in-Err-clause-plain
returns-in-Err-clause-plain c = λ v h pre_release build. absurd (c.in-Err.ensures.only v h)
