-- The result is what the range admits of the version that the text writes. A text that is not read is no version.
use Rattle.std.proofs.Common.{subst, sym}
use Rattle.node_semver.specs.Ranges.{RangeAdmits}
use Rattle.node_semver.specs.Versions.{VersionValue}
use Rattle.node_semver_callers.proofs.mirror.is_mirrored.Goals as goal

pub returns-in-Ok : goal.returns-in-Ok
returns-in-Ok c = (
  λ yes. record {
    version = c.in-Ok.version;
    written = rw c.in-Ok.is at c.parse.ensures.found;
    admitted = c.satisfies.ensures.0 yes;
  },
  λ is.
      let same = rw c.in-Ok.is at (c.parse.ensures.only is.version is.written) in
      c.satisfies.ensures.1 (subst (λ (v : VersionValue). RangeAdmits c.args.range.now v) (sym same) is.admitted),
)

pub returns-in-Err : goal.returns-in-Err
returns-in-Err c = (
  λ yes. absurd (cc yes),
  λ is. absurd (rw c.in-Err.is at (c.parse.ensures.only is.version is.written)),
)
