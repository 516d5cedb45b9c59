use Rattle.std.proofs.Common.{rules, subst}
use Rattle.semver_texts.specs.Version.{IsPlain, VersionValue}
use Rattle.semver_versions.specs.Lemmas.Versions.FaultLemmas.{version-no_fault}
use Rattle.semver_versions.specs.Lemmas.Versions.OneReading.{one_reading}
use Rattle.semver_versions.proofs.version.parse.version_after_triple.Goals as goal

pub returns-in-Err-to_version : goal.returns-in-Err-to_version
returns-in-Err-to_version c = record {
  found = search rules;
  fault = search rules;
  plain = λ v h pre build.
      let same = one_reading c.args.text.now v c.in-Ok.version h c.in-Ok.ensures.found in
      rw c.in-Err-to_version.is at (c.to_version.ensures.plain (subst (λ (w : VersionValue). IsPlain w) same (record {
        pre_release = pre;
        build = build;
      })));
}

pub returns-in-Err : goal.returns-in-Err
returns-in-Err c = record {
  found = search rules;
  fault = search rules;
  plain = λ v h pre build. absurd
      (version-no_fault c.args.text.now v _ _ h c.in-Err.ensures.fault.fault);
}
