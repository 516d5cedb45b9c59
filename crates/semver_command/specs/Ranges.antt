-- Which versions satisfy a range of the command line.
use Rattle.std.specs.Prelude.{ℕ, List, Bool, Option, Some, None, option_map}
use Rattle.std.specs.List.{AllByRecursion}
use denote.Ref.{Bor}
use Rattle.semver_cuts.specs.Ends.{Ends}
use Rattle.npm_semver.specs.NpmRanges.{NpmOptions, NpmSetsAdmit, NpmTextAdmits, with_plain_spaces}
use Rattle.node_semver.specs.Versions.{VersionValue}
use Rattle.semver_command.specs.declared.asked.Options.{Options}

-- how the ranges are read
abbrev pub npm_options : Options → NpmOptions
npm_options options = record { loose = options.loose; include_prerelease = options.include_prerelease }

-- The text, in npm's own reading, admits the version. A refused text admits none, and neither does a text that is
-- missing.
abbrev pub IsAdmittedBy : NpmOptions → Option (List ℕ) → VersionValue → Type 0
IsAdmittedBy options None v = ⊥
IsAdmittedBy options (Some text) v = NpmTextAdmits options (with_plain_spaces text) v

-- all texts do
abbrev pub IsAdmittedByAll : NpmOptions → List (Option (List ℕ)) → VersionValue → Type 0
IsAdmittedByAll options texts v = AllByRecursion (λ text. IsAdmittedBy options text v) texts

-- ---- what a contract sees of texts, and of ranges that were read

abbrev pub text_value : Option (Bor (List ℕ)) → Option (List ℕ)
text_value text = option_map (λ t. t.now) text

-- the version satisfies the range or, with prereleases included, lies inside one of its sets
abbrev pub IsIn : (include_prerelease : Bool) → Option (List (Ends VersionValue)) → VersionValue → Type 0
IsIn include_prerelease None v = ⊥
IsIn include_prerelease (Some sets) v = NpmSetsAdmit include_prerelease sets v

-- the version is in each of the ranges
abbrev pub IsInAll : (include_prerelease : Bool) → List (Option (List (Ends VersionValue))) → VersionValue → Type 0
IsInAll include_prerelease ranges v = AllByRecursion (λ range. IsIn include_prerelease range v) ranges

abbrev pub range_value : Option (Bor (List (Ends VersionValue))) → Option (List (Ends VersionValue))
range_value range = option_map (λ r. r.now) range
