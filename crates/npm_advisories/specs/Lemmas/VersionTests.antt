-- There is one test for version texts.
use Rattle.std.proofs.Common.{◌≡◌, ℕ, List, Bool, true, false, inl, inr, refl}
use Rattle.semver_versions.specs.Lemmas.Public.{read_or_faulty, version-no_fault}
use Rattle.semver_versions.specs.VersionLaws.{IsReadOrFaulty}
use Rattle.node_semver.specs.Versions.{IsVersionText, VersionValue}
use Rattle.npm_advisories.specs.VersionTest.{IsVersionTest}
use Rattle.npm_advisories.specs.Private.VersionTest.{is_left, is_version}

module _ (text : List ℕ) where
  passes-by : (v : VersionValue) → IsVersionText text v → (read : IsReadOrFaulty text) → is_left read ≡ true
  passes-by v is (inl read) = refl
  passes-by v is (inr faulty) = absurd (version-no_fault text v faulty.0 faulty.1 is faulty.2)

  fails-by : ((v : VersionValue) → ¬ IsVersionText text v) → (read : IsReadOrFaulty text) → is_left read ≡ false
  fails-by none (inl read) = absurd (none read.0 read.1)
  fails-by none (inr faulty) = refl

  only-by : (read : IsReadOrFaulty text) → is_left read ≡ true → (v : VersionValue) × IsVersionText text v
  only-by (inl read) is = read
  only-by (inr faulty) is = absurd (cc)

-- the text of a version passes, and any other does not
pub version-passes : (text : List ℕ) (v : VersionValue) → IsVersionText text v → is_version text ≡ true
unfolding is_version
version-passes text v is = passes-by text v is (read_or_faulty text)

pub other-fails : (text : List ℕ) → ((v : VersionValue) → ¬ IsVersionText text v) → is_version text ≡ false
unfolding is_version
other-fails text none = fails-by text none (read_or_faulty text)

version-only : (text : List ℕ) → is_version text ≡ true → (v : VersionValue) × IsVersionText text v
unfolding is_version
version-only text is = only-by text (read_or_faulty text) is

-- there is a test
pub is-test : IsVersionTest is_version
is-test = record { passes = version-passes; only = version-only }

both-ways : (a b : Bool) → (a ≡ true → b ≡ true) → (b ≡ true → a ≡ true) → a ≡ b
both-ways true true f g = refl
both-ways true false f g = let e : false ≡ true = f refl in absurd (cc)
both-ways false true f g = let e : false ≡ true = g refl in absurd (cc)
both-ways false false f g = refl

module _ (other : List ℕ → Bool) (told : IsVersionTest other) where
  alike : (text : List ℕ) → other text ≡ is_version text
  alike text = both-ways (other text) (is_version text)
      (λ e. let read = told.only text e in version-passes text read.0 read.1)
      (λ e. let read = version-only text e in told.passes text read.0 read.1)

  -- and no other one
  pub only-test : other ≡ is_version
  only-test = λ i text. alike text i
