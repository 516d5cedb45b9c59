-- An audit, one installed package after another.
use Rattle.std.proofs.Common.{◌≡◌, ◌||◌, ◌++◌, ◌<◌, ◌+◌, ℕ, List, [], ◌∷◌, Bool, true, false, ap, arith}
use Rattle.std.proofs.Common.{bytes_eq, get_or, length, map, refl, suc, sym, take, zero}
use Rattle.std.specs.Prelude.{◌==◌, ◌≢◌}
use Rattle.std.proofs.lemmas.Bool.{eqb-true}
use Rattle.std.proofs.lemmas.List.{map-append, nil_from_length, take_more}
use Rattle.std.proofs.lemmas.Slice.Eq.{bytes_eq-Decides}
use Rattle.npm_advisories.specs.Advisories.{AdvisoryValue, about_name}
use Rattle.npm_advisories.specs.Audit.{FoundValue, InstalledValue, IsAudit, IsFound, IsSpared, found_value, hit}
use Rattle.npm_advisories.specs.Audit.{installed_value, names_of, none, spared}
use Rattle.npm_advisories.specs.Hits.{Known}
use Rattle.npm_advisories.specs.Files.{is_among}
use Rattle.npm_advisories.specs.Private.Auditing.{IsFoundOf}
use Rattle.npm_advisories.specs.declared.found.Found.{Found}
use Rattle.npm_advisories.specs.declared.found.Installed.{Installed}
use Rattle.npm_advisories.specs.declared.severity.Severity.{Severity}

module _ (level : Severity) (values : List AdvisoryValue) (one : InstalledValue) where
  one-spared : (before : List InstalledValue) (found : List FoundValue) → IsAudit level values before found
      → IsSpared level (about_name one.name values) one → IsAudit level values (before ++ one ∷ []) found
  one-spared _ _ none is = spared one [] [] is none
  one-spared _ _ (spared a before found here more) is =
      spared a (before ++ one ∷ []) found here (one-spared before found more is)
  one-spared _ _ (hit a v f before found here more) is =
      hit a v f (before ++ one ∷ []) found here (one-spared before found more is)

  one-hit : (v : Known) (new : FoundValue) (before : List InstalledValue) (found : List FoundValue)
      → IsAudit level values before found → IsFound level (about_name one.name values) one v new
      → IsAudit level values (before ++ one ∷ []) (found ++ new ∷ [])
  one-hit v new _ _ none is = hit one v new [] [] is none
  one-hit v new _ _ (spared a before found here more) is =
      spared a (before ++ one ∷ []) (found ++ new ∷ []) here (one-hit v new before found more is)
  one-hit v new _ _ (hit a w f before found here more) is =
      hit a w f (before ++ one ∷ []) (found ++ new ∷ []) here (one-hit v new before found more is)

module _ (level : Severity) (values : List AdvisoryValue) (installed : List Installed) (i : ℕ) (one : Installed)
    (lt : i < length installed) (at : one ≡ get_or installed i one) where
  -- the package at i is not hit
  pub next-spared : (found next : List Found) → next ≡ found
      → IsAudit level values (map installed_value (take i installed)) (map found_value found)
      → IsSpared level (about_name one.name.now values) (installed_value one)
      → IsAudit level values (map installed_value (take (i + 1) installed)) (map found_value next)
  next-spared found next e before is =
      rw (e, take_more installed i one lt, ← at, map-append installed_value (take i installed) (one ∷ []))
      (one-spared level values (installed_value one) (map installed_value (take i installed)) (map found_value found)
      before is)

  -- the package at i is hit
  pub next-hit : (found next : List Found) (new : Found) → next ≡ found ++ new ∷ []
      → IsAudit level values (map installed_value (take i installed)) (map found_value found)
      → IsFoundOf level values one new
      → IsAudit level values (map installed_value (take (i + 1) installed)) (map found_value next)
  next-hit found next new e before is =
      rw (
        e,
        take_more installed i one lt,
        ← at,
        map-append installed_value (take i installed) (one ∷ []),
        map-append found_value found (new ∷ []),
      )
      (one-hit level values (installed_value one) is.known (found_value new) (map installed_value (take i installed))
      (map found_value found) before is.is)

-- ---- the names of installed packages

or-right : (a b : Bool) → b ≡ true → (a || b) ≡ true
or-right true b is = refl
or-right false b is = is

-- each of them is among these
pub among-at : (installed : List Installed) (i : ℕ) (one : Installed) → i < length installed
    → one ≡ get_or installed i one → is_among (names_of (map installed_value installed)) one.name.now ≡ true
among-at [] i one lt is = absurd (omega arith)
among-at (x ∷ others) zero one lt is =
    let same : bytes_eq x.name.now one.name.now ≡ true =
    (bytes_eq-Decides x.name.now one.name.now).1 (ap (λ (o : Installed). o.name.now) (sym is)) in
    rw same refl
among-at (x ∷ others) (suc i) one lt is =
    or-right (bytes_eq x.name.now one.name.now) (is_among (names_of (map installed_value others)) one.name.now)
    (among-at others i one (omega arith) is)

-- ---- the list of hits

pub empty-of : {X : Type 0} (xs : List X) → (length xs == 0) ≡ true → xs ≡ []
empty-of xs is = nil_from_length xs (eqb-true (length xs) 0 is)

pub some-of : {X Y : Type 0} (f : X → Y) (xs : List X) → (length xs == 0) ≡ false → map f xs ≢ []
some-of f [] is = absurd (cc)
some-of f (x ∷ xs) is = λ none. absurd (cc)

pub not-empty : {X : Type 0} (xs : List X) → (length xs == 0) ≡ false → xs ≢ []
not-empty [] is = absurd (cc)
not-empty (x ∷ xs) is = λ none. absurd (cc)
