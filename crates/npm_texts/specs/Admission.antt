-- Which versions the text of a range admits: npm's "package.json", "dependencies" and "engines".
use Rattle.std.specs.Prelude.{ℕ, List, true, false}
use Rattle.npm_semver.specs.NpmRanges.{IsNpmRefused, NpmOptions, NpmTextAdmits, with_plain_spaces}
use Rattle.node_semver.specs.Versions.{VersionValue}

-- npm reads the ranges of dependencies in loose form, and those of engines with prereleases included
abbrev pub of_dependencies : NpmOptions
of_dependencies = record { loose = true; include_prerelease = false }

abbrev pub of_engines : NpmOptions
of_engines = record { loose = false; include_prerelease = true }

-- the text is no range
abbrev pub IsNoRange : NpmOptions → (text : List ℕ) → Type 0
IsNoRange options text = IsNpmRefused options (with_plain_spaces text)

-- the text is a range that admits the version
abbrev pub Admits : NpmOptions → (text : List ℕ) → VersionValue → Type 0
Admits options text v = NpmTextAdmits options (with_plain_spaces text) v
