-- The least version, above which releases are offered if the installed version is not known.
use Rattle.std.proofs.Common.{Option, Some, None, IfSome, arith, codes, refl}
use Rattle.semver_versions.specs.Lemmas.Public.{is-version_in, version_in}
use Rattle.node_semver.specs.Ranges.{IsRangeEnd}
use Rattle.node_semver.specs.Versions.{IsVersionText, VersionValue, least_of}
use Rattle.npm_advisories.specs.Audit.{version_or_least}
use Rattle.npm_advisories.specs.Lemmas.Versions.{version-end}

pub least-text : IsVersionText (codes "0.0.0-0") (least_of 0 0 0)
unfolding version_in
least-text = is-version_in _ _ (omega arith) refl

pub least-end : IsRangeEnd (least_of 0 0 0)
least-end = version-end (codes "0.0.0-0") (least_of 0 0 0) least-text

-- a version that was read, or the least one
pub end-or_least : (v : Option VersionValue) → IfSome v IsRangeEnd → IsRangeEnd (version_or_least v)
end-or_least (Some v) end = end
end-or_least None end = least-end
