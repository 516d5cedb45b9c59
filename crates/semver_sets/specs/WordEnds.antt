-- Partials, and the ends of a comparator before their versions are built: what a contract sees of them.
use Rattle.std.specs.Prelude.{ℕ, ◌≤◌, List, IfSome}
use Rattle.semver_cuts.specs.declared.cut.Cut.{Cut}
use Rattle.semver_cuts.specs.declared.cut.Cut.TheVariants as Cuts
use Rattle.semver_texts.specs.Reading.{read_extras}
use Rattle.semver_texts.specs.declared.TheConstants.{MAX_SAFE_INTEGER}
use Rattle.semver_texts.specs.Version.{VersionValue, least_of, release, without_build}
use Rattle.semver_sets.specs.Comparator.{Comparator}
use Rattle.semver_sets.specs.PartialText.{Partial}
use Rattle.semver_sets.specs.declared.partial.Partial.{Partial as CodePartial}
use Rattle.semver_sets.specs.declared.word.ends.WordCut.{WordCut}
use Rattle.semver_sets.specs.declared.word.ends.WordCut.TheVariants as WordCuts
use Rattle.semver_sets.specs.declared.word.ends.WordEnds.{WordEnds}
use Rattle.semver_sets.specs.declared.word.ends.WordVersion.{WordVersion}
use Rattle.semver_sets.specs.declared.word.ends.WordVersion.TheVariants as WordVersions

-- ---- partials

-- a partial, with the extras that its text of extras begins with
abbrev pub partial_seen : CodePartial → Partial
partial_seen p = record {
  major = p.major;
  minor = p.minor;
  patch = p.patch;
  pre_release = (read_extras p.extras.now).0.0;
  build = (read_extras p.extras.now).0.1;
}

-- no number is above the limit
pub record IsSound (p : CodePartial) : Type 0 where
  pub major : IfSome p.major (λ n. n ≤ MAX_SAFE_INTEGER)
  pub minor : IfSome p.minor (λ n. n ≤ MAX_SAFE_INTEGER)
  pub patch : IfSome p.patch (λ n. n ≤ MAX_SAFE_INTEGER)

-- ---- ends

-- three numbers, and the extras that a text begins with: `1.2.3-a+b`
abbrev pub written : ℕ → ℕ → ℕ → List ℕ → VersionValue
written major minor patch extras = record {
  major = major;
  minor = minor;
  patch = patch;
  pre_release = (read_extras extras).0.0;
  build = (read_extras extras).0.1;
}

abbrev pub version_seen : WordVersion → VersionValue
version_seen (WordVersions.Release major minor patch) = release major minor patch
version_seen (WordVersions.Least major minor patch) = least_of major minor patch
version_seen (WordVersions.Full major minor patch extras) = written major minor patch extras.now
version_seen (WordVersions.Bare major minor patch extras) = without_build (written major minor patch extras.now)

abbrev pub cut_seen : WordCut → Cut VersionValue
cut_seen WordCuts.Start = Cuts.Start
cut_seen (WordCuts.Before v) = Cuts.Before (version_seen v)
cut_seen (WordCuts.After v) = Cuts.After (version_seen v)
cut_seen WordCuts.End = Cuts.End

abbrev pub ends_seen : WordEnds → Comparator
ends_seen e = record { lower = cut_seen e.lower; upper = cut_seen e.upper }
