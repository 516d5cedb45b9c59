use Rattle.std.proofs.Common.{refl}
use Rattle.std.proofs.lemmas.Bool.{iff_false}
use Rattle.semver_keys.proofs.IdentifierReading.{none-prerelease, none-zero_alone, prerelease-read, release-read}
use Rattle.semver_keys.proofs.VersionReading.{found-weaker, none-weaker}
use Rattle.semver_keys.proofs.read.read_prerelease.Goals as goal

pub returns-then-is_byte-clause-read : goal.returns-then-is_byte-clause-read
returns-then-is_byte-clause-read c = release-read _ _ c.new.ensures.items (c.if-is_byte.ensures.0 refl)

pub returns-then-is_byte-2-clause-none : goal.returns-then-is_byte-2-clause-none
returns-then-is_byte-2-clause-none c = none-zero_alone _ (c.if-is_byte-2.ensures.0 refl)

pub returns-clause-read : goal.returns-clause-read
returns-clause-read c = found-weaker _ _ _ (λ v. prerelease-read _ (iff_false c.is_byte-2.ensures c.if-is_byte-2.false) _) c.read_identifiers.ensures.read

pub returns-clause-none : goal.returns-clause-none
returns-clause-none c =
    none-weaker _ (none-prerelease _ (iff_false c.is_byte.ensures c.if-is_byte.false)) c.read_identifiers.ensures.none
