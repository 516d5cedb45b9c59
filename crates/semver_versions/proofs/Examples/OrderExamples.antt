-- Examples of the order, computed from its definitions: SemVer 2.0.0, sections 10 and 11.
use Rattle.std.proofs.Common.{◌≡◌, ℕ, List, [], ◌∷◌, codes, refl}
use Rattle.std.specs.declared.cmp.Ordering.TheVariants.{Less, Equal, Greater}
use Rattle.semver_texts.specs.IdentifierValue.{IdentifierValue, numeric, alphanumeric}
use Rattle.semver_texts.specs.Version.{VersionValue, release}
use Rattle.semver_texts.specs.Order.{IsBelow, IsSame}
use Rattle.semver_texts.specs.Comparison.{version_cmp}
use Rattle.semver_versions.specs.BuildOrder.{IsBelowWithBuild, version_build_cmp}
use Rattle.semver_versions.specs.Lemmas.BuildOrder.{version_build_cmp-means}
use Rattle.semver_texts.specs.Lemmas.Order.{version_cmp-means}

-- `1.0.0` with these prerelease identifiers
abbrev one : List IdentifierValue → VersionValue
one identifiers = record (release 1 0 0) { pre_release = identifiers }

abbrev word : List ℕ → IdentifierValue
word text = alphanumeric text

-- the standard's chain of section 11.4, and each version is below the next one
alpha-below : version_cmp (one (word (codes "alpha") ∷ [])) (one (word (codes "alpha") ∷ numeric 1 ∷ [])) ≡ Less
alpha-below = refl

alpha_1-below : version_cmp (one (word (codes "alpha") ∷ numeric 1 ∷ []))
    (one (word (codes "alpha") ∷ word (codes "beta") ∷ [])) ≡ Less
alpha_1-below = refl

alpha_beta-below : version_cmp (one (word (codes "alpha") ∷ word (codes "beta") ∷ []))
    (one (word (codes "beta") ∷ [])) ≡ Less
alpha_beta-below = refl

beta-below : version_cmp (one (word (codes "beta") ∷ [])) (one (word (codes "beta") ∷ numeric 2 ∷ [])) ≡ Less
beta-below = refl

-- by number, and not by digits
beta_2-below : version_cmp (one (word (codes "beta") ∷ numeric 2 ∷ [])) (one (word (codes "beta") ∷ numeric 11 ∷ []))
    ≡ Less
beta_2-below = refl

beta_11-below : version_cmp (one (word (codes "beta") ∷ numeric 11 ∷ [])) (one (word (codes "rc") ∷ numeric 1 ∷ []))
    ≡ Less
beta_11-below = refl

rc_1-below : version_cmp (one (word (codes "rc") ∷ numeric 1 ∷ [])) (release 1 0 0) ≡ Less
rc_1-below = refl

-- the other way round it is above
release-above : version_cmp (release 1 0 0) (one (word (codes "rc") ∷ numeric 1 ∷ [])) ≡ Greater
release-above = refl

-- section 11.2: `1.0.0`, `2.0.0`, `2.1.0`, `2.1.1`
major-below : version_cmp (release 1 0 0) (release 2 0 0) ≡ Less
major-below = refl

minor-below : version_cmp (release 2 0 0) (release 2 1 0) ≡ Less
minor-below = refl

patch-below : version_cmp (release 2 1 0) (release 2 1 1) ≡ Less
patch-below = refl

-- the greatest number is below each text, also one of more digits
number-below : version_cmp (one (numeric 18446744073709551615 ∷ [])) (one (word (codes "99999999999999999999") ∷ []))
    ≡ Less
number-below = refl

-- a capital letter is below each small one, by its byte
capital-below : version_cmp (one (word (codes "Beta") ∷ [])) (one (word (codes "alpha") ∷ [])) ≡ Less
capital-below = refl

-- section 10: the build is not looked at
build-same : version_cmp (record (release 1 0 0) { build = numeric 1 ∷ [] }) (release 1 0 0) ≡ Equal
build-same = refl

-- in SemVer's words
chain-IsBelow : IsBelow (one (word (codes "alpha") ∷ [])) (one (word (codes "alpha") ∷ numeric 1 ∷ []))
chain-IsBelow = (version_cmp-means _ _).below.0 alpha-below

build-IsSame : IsSame (record (release 1 0 0) { build = numeric 1 ∷ [] }) (release 1 0 0)
build-IsSame = (version_cmp-means _ _).same.0 build-same

-- ---- with builds

-- `1.0.0` with these build identifiers
abbrev built : List IdentifierValue → VersionValue
built identifiers = record (release 1 0 0) { build = identifiers }

no_build-below : version_build_cmp (built []) (built (numeric 0 ∷ [])) ≡ Less
no_build-below = refl

build_2-below : version_build_cmp (built (numeric 2 ∷ [])) (built (numeric 11 ∷ [])) ≡ Less
build_2-below = refl

build_number-below : version_build_cmp (built (numeric 11 ∷ [])) (built (word (codes "a") ∷ [])) ≡ Less
build_number-below = refl

build_a-below : version_build_cmp (built (word (codes "a") ∷ [])) (built (word (codes "a") ∷ numeric 1 ∷ [])) ≡ Less
build_a-below = refl

-- precedence comes first
precedence-below : version_build_cmp (built (word (codes "a") ∷ [])) (release 1 0 1) ≡ Less
precedence-below = refl

no_build-IsBelowWithBuild : IsBelowWithBuild (built []) (built (numeric 0 ∷ []))
no_build-IsBelowWithBuild = (version_build_cmp-means _ _).below.0 no_build-below
