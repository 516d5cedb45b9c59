-- The lemmas that the crates above may cite, by subject. Each is proved in the file that it is taken from. They say
-- what
-- holds of versions and of their texts, and not how a text is read.

-- ---- the least versions and the next: what is above, and that no version lies between
pub use Rattle.semver_versions.specs.Lemmas.Versions.VersionSteps.{next-above, patch-above, with_zero-above, zero-above}
pub use Rattle.semver_versions.specs.Lemmas.Versions.VersionSteps.{none-before_next, none-before_zero, none-between_patches}
pub use Rattle.semver_versions.specs.Lemmas.Versions.VersionSteps.{none-between_zeros, prerelease-from_below}
-- ---- the order with builds
pub use Rattle.semver_versions.specs.Lemmas.BuildOrder.{version_build_order}
-- ---- version texts: one reading or one fault; both can be computed
pub use Rattle.semver_versions.specs.Lemmas.Versions.OneReading.{one_reading}
pub use Rattle.semver_versions.specs.Lemmas.Versions.FaultLemmas.{one_fault, read_or_faulty, version-no_fault}
unfoldable pub use Rattle.semver_versions.specs.Lemmas.Versions.Computing.{computed, version_in}
pub use Rattle.semver_versions.specs.Lemmas.Versions.Computing.{is-computed, is-version_in}
