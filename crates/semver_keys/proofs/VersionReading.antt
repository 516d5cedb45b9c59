-- The version that bytes are the key of.
use Rattle.std.proofs.Common.{◌≡◌, ◌<◌, ◌^◌, ◌++◌, ℕ, List, [], ◌∷◌, arith, refl, sym, ap, ◌∙◌}
use Rattle.std.proofs.lemmas.List.{append-nil}
use Rattle.std.specs.Ordering.{ordering_then}
use Rattle.std.specs.declared.cmp.Ordering.{Ordering}
use Rattle.std.specs.declared.cmp.Ordering.TheVariants.{Less, Equal, Greater}
use Rattle.std.proofs.Common.{Option, Some, None, Result, Ok, Err, IfOk, IfSome, IfNone}
use Rattle.semver_texts.specs.IdentifierValue.{IdentifierValue}
use Rattle.semver_texts.specs.Comparison.{version_cmp}
use Rattle.semver_texts.specs.Lemmas.Public.{Equal-version}
use Rattle.semver_texts.specs.Order.{IsSame}
use Rattle.semver_texts.specs.Version.{VersionValue, without_build}
use Rattle.semver_texts.specs.declared.triple.Triple.{Triple}
use Rattle.semver_versions.specs.VersionSteps.{IsVersion}
use Rattle.semver_keys.specs.IdentifierKey.{prerelease_key}
use Rattle.semver_keys.specs.NumberKey.{number_key}
use Rattle.semver_keys.specs.VersionKey.{HasWords, version_key}
use Rattle.semver_keys.specs.KeyOrder.{key_cmp}
use Rattle.semver_keys.specs.Lemmas.CutOrder.{versions-order}
use Rattle.semver_keys.specs.Lemmas.VersionOrder.{version-order}
use Rattle.semver_keys.specs.VersionOfKey.{IsKeyOfRelease, IsNoKey, IsVersionOfKey}
use Rattle.semver_keys.specs.Private.Reading.{BeginsWithNoNumber, BeginsWithNoTriple, IsNumberRead, IsOfNoPrerelease, IsPrereleaseOf, IsTripleRead}
use Rattle.semver_keys.proofs.IdentifierReading.{words-of}
use Rattle.semver_keys.proofs.Parted.{number-parted, same-tied}

-- what follows a number
pub after-number : (n m : ℕ) (r rest key : List ℕ) → n < 2 ^ 64 → IsNumberRead key m rest → number_key n ++ r ≡ key
    → r ≡ rest
after-number n m r rest key h read e = (number-parted n m r rest h read.word (e ∙ sym read.whole)).1

pub none-second : (m : ℕ) (rest key : List ℕ) → IsNumberRead key m rest → BeginsWithNoNumber rest → BeginsWithNoTriple key
none-second m rest key read none major minor patch r h k l e =
    none minor _ k (after-number major m _ rest key h read e)

pub none-third : (m n : ℕ) (rest others key : List ℕ) → IsNumberRead key m rest → IsNumberRead rest n others
    → BeginsWithNoNumber others → BeginsWithNoTriple key
none-third m n rest others key read next none major minor patch r h k l e =
    none patch _ l (after-number minor n _ others rest k next (after-number major m _ rest key h read e))

-- ---- versions

pub no-triple : (key : List ℕ) → BeginsWithNoTriple key → IsNoKey key
unfolding version_key
no-triple key none v h e = none v.major v.minor v.patch (prerelease_key v.pre_release) h.major h.minor h.patch e

pub no-prerelease : (key : List ℕ) (t : Triple) (rest : List ℕ) → IsTripleRead key t rest → IsOfNoPrerelease rest
    → IsNoKey key
unfolding version_key
no-prerelease key t rest read none v h e =
    let one = number-parted v.major t.major _ _ h.major read.major (e ∙ sym read.whole) in
    let two = number-parted v.minor t.minor _ _ h.minor read.minor one.1 in
    let three = number-parted v.patch t.patch _ _ h.patch read.patch two.1 in
    none v.pre_release h.pre_release three.1

pub version-read : (key : List ℕ) (t : Triple) (rest : List ℕ) (xs build : List IdentifierValue) → IsTripleRead key t rest
    → IsPrereleaseOf rest xs → build ≡ []
    → IsVersionOfKey key (record { major = t.major; minor = t.minor; patch = t.patch; pre_release = xs; build = build })
unfolding version_key
version-read key t rest xs build read pre no_build = record {
  words = record { major = read.major; minor = read.minor; patch = read.patch; identifiers = pre.words };
  key_is = ap (λ k. number_key t.major ++ (number_key t.minor ++ (number_key t.patch ++ k))) pre.key_is ∙ read.whole;
  build = no_build;
}

-- ---- the key of a version, read again

words-of_version : (v : VersionValue) → IsVersion v → HasWords v
words-of_version v h =
    record { major = h.major; minor = h.minor; patch = h.patch; identifiers = words-of v.pre_release h.pre_release }

same-version : (w v : VersionValue) → IsSame w v → w.build ≡ [] → w ≡ without_build v
same-version w v s b = λ i. record {
  major = s.triple.major i;
  minor = s.triple.minor i;
  patch = s.triple.patch i;
  pre_release = s.pre_release i;
  build = b i;
}

pub read-back : (v w : VersionValue) → IsVersion v → IsVersionOfKey (version_key v) w → w ≡ without_build v
read-back v w h k = same-version w v
    (Equal-version w v (sym (versions-order w v k.words (words-of_version v h)) ∙ same-tied _ _ k.key_is)) k.build

-- ---- keys of releases, and keys that begin another

-- after the three numbers of a release stands 255
pub after-triple : (key : List ℕ) (t : Triple) (rest : List ℕ) → IsTripleRead key t rest → IsKeyOfRelease key
    → rest ≡ 255 ∷ []
unfolding version_key prerelease_key
after-triple key t rest read is =
    let v = is.version in
    let one = number-parted v.major t.major _ _ is.words.major read.major (is.key_is ∙ sym read.whole) in
    let two = number-parted v.minor t.minor _ _ is.words.minor read.minor one.1 in
    let three = number-parted v.patch t.patch _ _ is.words.patch read.patch two.1 in
    sym three.1 ∙ ap prerelease_key is.release

-- bytes that are the same as none are none
nothing-more : (o : Ordering) (rest : List ℕ) → ordering_then o (key_cmp rest []) ≡ Equal → rest ≡ []
nothing-more o [] e = refl
nothing-more Less (b ∷ bs) e = absurd (grind (arith, e))
nothing-more Equal (b ∷ bs) e = absurd (grind (arith, e))
nothing-more Greater (b ∷ bs) e = absurd (grind (arith, e))

pub no-key-begins : (v w : VersionValue) (rest : List ℕ) → HasWords v → HasWords w
    → version_key w ≡ version_key v ++ rest → rest ≡ []
no-key-begins v w rest h k e = nothing-more (version_cmp v w) rest (sym (version-order v w rest [] h k)
    ∙ same-tied _ _ (sym e ∙ sym (append-nil (version_key w))))

-- ---- results

pub found-weaker : {A E : Type 0} (r : Result (Option A) E) (P Q : A → Type 0) → ((x : A) → P x → Q x)
    → IfOk r (λ found. IfSome found P) → IfOk r (λ found. IfSome found Q)
found-weaker (Ok (Some x)) P Q f p = f x p
found-weaker (Ok None) P Q f p = tt
found-weaker (Err e) P Q f p = tt

pub none-weaker : {A E P Q : Type 0} (r : Result (Option A) E) → (P → Q) → IfOk r (λ found. IfNone found P)
    → IfOk r (λ found. IfNone found Q)
none-weaker (Ok (Some x)) f p = tt
none-weaker (Ok None) f p = f p
none-weaker (Err e) f p = tt
