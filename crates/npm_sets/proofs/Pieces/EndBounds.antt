-- The ends of a comparator are cuts that a range can have, since their numbers are small.
use native.Mathlib.Omega.{arith}
use Rattle.std.proofs.Common.{[], ◌∷◌, refl}
use Rattle.semver_texts.specs.IdentifierText.{IsReadIdentifier}
use Rattle.semver_texts.specs.IdentifierValue.{numeric}
use Rattle.semver_texts.specs.Lemmas.Public.{extras-takes, build-read, prerelease-read}
use Rattle.semver_sets.specs.RangeSets.{IsRangeCut, IsRangeEnd}
use Rattle.semver_sets.specs.Lemmas.Comparators.{IsReadEnds}
use Rattle.npm_sets.specs.Private.ReadViews.{AreSmallEnds, IsSmallCut, IsSmallVersion}
use Rattle.semver_sets.specs.WordEnds.{cut_seen, ends_seen, version_seen}
use Rattle.semver_sets.specs.declared.word.ends.WordCut.{WordCut}
use Rattle.semver_sets.specs.declared.word.ends.WordEnds.{WordEnds}
use Rattle.semver_sets.specs.declared.word.ends.WordVersion.{WordVersion}
use Rattle.semver_sets.specs.declared.word.ends.WordVersion.TheVariants as WordVersions

pub zero-read : IsReadIdentifier (numeric 0)
zero-read = (48 ∷ [], (refl, refl), refl)

version-read : (v : WordVersion) → IsSmallVersion v → IsRangeEnd (version_seen v)
version-read (WordVersions.Release major minor patch) small = grind arith
version-read (WordVersions.Least major minor patch) small = grind (arith, zero-read)
version-read (WordVersions.Full major minor patch extras) small =
    grind (arith, extras-takes extras.now, build-read, prerelease-read)
version-read (WordVersions.Bare major minor patch extras) small =
    grind (arith, extras-takes extras.now, prerelease-read)

cut-read : (cut : WordCut) → IsSmallCut cut → IsRangeCut (cut_seen cut)
cut-read cut h1 = grind (arith, version-read)

pub small-read : (e : WordEnds) → AreSmallEnds e → IsReadEnds (ends_seen e)
small-read e small = record { lower = cut-read e.lower small.lower; upper = cut-read e.upper small.upper }
