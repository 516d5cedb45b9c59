-- Versions as values: SemVer 2.0.0, sections 2, 9 and 10.
use Rattle.std.specs.Prelude.{ℕ, List, [], ◌∷◌, ◌≡◌, ◌≢◌}
use Rattle.semver_texts.specs.IdentifierValue.{IdentifierValue, numeric}

-- a triple, a prerelease and a build
pub record VersionValue : Type 0 where
  pub major : ℕ
  pub minor : ℕ
  pub patch : ℕ
  pub pre_release : List IdentifierValue
  pub build : List IdentifierValue

-- the version has prerelease identifiers; every other version is a release
abbrev pub IsPrerelease : VersionValue → Type 0
IsPrerelease v = v.pre_release ≢ []

-- the version has no prerelease and no build: `1.2.3`
pub record IsPlain (v : VersionValue) : Type 0 where
  pub pre_release : v.pre_release ≡ []
  pub build : v.build ≡ []

-- the two versions have the same major, minor and patch
pub record HasSameTriple (v w : VersionValue) : Type 0 where
  pub major : v.major ≡ w.major
  pub minor : v.minor ≡ w.minor
  pub patch : v.patch ≡ w.patch

-- the release with this triple, and no build
abbrev pub release : ℕ → ℕ → ℕ → VersionValue
release m n p = record { major = m; minor = n; patch = p; pre_release = []; build = [] }

-- the triple with one numeric prerelease identifier, and no build: `1.2.3-4`
abbrev pub with_pre_release : ℕ → ℕ → ℕ → ℕ → VersionValue
with_pre_release m n p i = record (release m n p) { pre_release = numeric i ∷ [] }

-- the least version with this triple: `2.0.0-0`
abbrev pub least_of : ℕ → ℕ → ℕ → VersionValue
least_of m n p = with_pre_release m n p 0

-- the version without its build: `1.2.3-rc.1` for `1.2.3-rc.1+7`
abbrev pub without_build : VersionValue → VersionValue
without_build v = record v { build = [] }
