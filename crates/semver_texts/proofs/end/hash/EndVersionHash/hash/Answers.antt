use Rattle.std.proofs.lemmas.Grind.{common_steps}
use native.Mathlib.Omega.{arith}
use Rattle.semver_texts.specs.Lemmas.Hash.{version_writes-fields}
use Rattle.semver_texts.specs.EndViews.{build_seen}
use Rattle.semver_texts.proofs.end.hash.EndVersionHash.hash.Goals as goal

pub returns : goal.returns
returns g c = grind (
  arith,
  common_steps,
  version_writes-fields c.self.inside.major c.self.inside.minor c.self.inside.patch c.as_slice.result.now
      (build_seen c.self.inside.extras),
)
