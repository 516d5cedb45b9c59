use Rattle.std.proofs.Common.{arith}
use Rattle.std.proofs.lemmas.Bool.{iff_false}
use Rattle.semver_keys.proofs.VersionSteps.{IsShort, release-key, release-words}
use Rattle.semver_keys.proofs.version.short_release.Goals as goal

pub returns : goal.returns
returns g c =
    let value = g.V.AsVersion.seen c.args.version.now in
    let short : IsShort value c.triple-triple.result = record {
      triple = c.triple-triple.ensures;
      release = iff_false c.is_prerelease.ensures c.if-is_prerelease.false;
      major = omega arith;
      minor = omega arith;
      patch = omega arith;
    } in
    record { key = release-key value c.triple-triple.result short; words = release-words value c.triple-triple.result short }
