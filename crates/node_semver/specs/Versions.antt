-- What contracts say about versions. It is defined in `semver_texts` and `semver_versions` and handed on here, so a caller lists
-- `node_semver` alone.
pub use Rattle.semver_texts.specs.Version.{VersionValue, IsPrerelease, IsPlain, HasSameTriple, release}
pub use Rattle.semver_texts.specs.Version.{with_pre_release, least_of, without_build}
pub use Rattle.semver_texts.specs.VersionText.{IsVersionText}
pub use Rattle.semver_versions.specs.VersionFault.{IsBorrowedAs}
pub use Rattle.semver_texts.specs.IdentifierValue.{IdentifierValue, alphanumeric, numeric}
pub use Rattle.semver_texts.specs.Identifier.{IsNumber, value_of, values_of}
pub use Rattle.semver_texts.specs.IdentifierRef.{borrowed_value}
pub use Rattle.semver_texts.specs.IdentifierText.{identifiers_of}
pub use Rattle.semver_texts.specs.EndViews.{borrowed_seen, build_seen, prerelease_seen}
pub use Rattle.semver_texts.specs.Triple.{triple_cmp, triple_of}
pub use Rattle.semver_texts.specs.Order.{IdentifierOrderMeans, IsBelow, IsSame, OrderMeans}
pub use Rattle.semver_texts.specs.Comparison.{identifier_cmp, prerelease_cmp, version_cmp}
pub use Rattle.semver_versions.specs.BuildOrder.{BuildOrderMeans, IsBelowWithBuild, version_build_cmp}
pub use Rattle.semver_texts.specs.Hash.{identifier_writes, version_writes}
pub use Rattle.semver_texts.specs.Print.{identifier_text, version_text}
pub use Rattle.semver_texts.specs.ReadingBack.{HasText, VersionReadsBack}
pub use Rattle.semver_versions.specs.VersionSteps.{HasGreatestPatch, IsVersion, next_version}
pub use Rattle.semver_texts.specs.declared.TheConstants.{MAX_LENGTH, MAX_SAFE_INTEGER}
