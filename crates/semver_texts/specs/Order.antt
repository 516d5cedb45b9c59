-- The order of versions in SemVer's words: SemVer 2.0.0, sections 10 and 11.
-- `Comparison` defines the same as a function.
-- See docs/DECISIONS.md, "The order of versions is defined twice".
use Rattle.std.specs.Prelude.{◌≡◌, ◌<◌, ◌⊎◌, ◌↔◌, ⊤, ℕ, List, ◌∷◌, ◌++◌}
use Rattle.std.specs.declared.cmp.Ordering.{Ordering}
use Rattle.std.specs.declared.cmp.Ordering.TheVariants.{Less, Equal, Greater}
use Rattle.semver_texts.specs.IdentifierValue.{IdentifierValue, numeric, alphanumeric}
use Rattle.semver_texts.specs.Version.{VersionValue, HasSameTriple, IsPrerelease}

-- the second list begins with the first and is longer: `alpha` and `alpha.1`
pub record IsProperPrefix {A : Type 0} (xs ys : List A) : Type 0 where
  pub next : A
  pub rest : List A
  pub goes_on : ys ≡ xs ++ next ∷ rest

-- after a common prefix, the next element of the first list is below that of the second: `alpha.1` and `alpha.beta`
pub record HasNextBelow {A : Type 0} (Below : A → A → Type 0) (xs ys : List A) : Type 0 where
  pub common : List A
  pub next : A
  pub rest : List A
  pub other_next : A
  pub other_rest : List A
  pub first : xs ≡ common ++ next ∷ rest
  pub second : ys ≡ common ++ other_next ∷ other_rest
  pub below : Below next other_next

-- the first list is a proper prefix of the second, or its first different element is below the other's
abbrev pub IsListBelow : {A : Type 0} → (A → A → Type 0) → List A → List A → Type 0
IsListBelow Below xs ys = IsProperPrefix xs ys ⊎ HasNextBelow Below xs ys

-- by bytes: `Beta` is below `alpha`
abbrev pub IsTextBelow : List ℕ → List ℕ → Type 0
IsTextBelow s t = IsListBelow (λ a b. a < b) s t

-- `2` is below `11`, `11` is below `alpha`, and `alpha` is below `beta`
abbrev pub IsIdentifierBelow : IdentifierValue → IdentifierValue → Type 0
IsIdentifierBelow (numeric m) (numeric n) = m < n
IsIdentifierBelow (numeric m) (alphanumeric t) = ⊤
IsIdentifierBelow (alphanumeric s) (numeric n) = ⊥
IsIdentifierBelow (alphanumeric s) (alphanumeric t) = IsTextBelow s t

-- v has lower precedence than w. The build plays no part
pub data IsBelow (v w : VersionValue) : Type 0 where
  -- `1.9.9` is below `2.0.0`
  by_major : v.major < w.major → IsBelow v w
  -- `2.0.9` is below `2.1.0`
  by_minor : v.major ≡ w.major → v.minor < w.minor → IsBelow v w
  -- `2.1.0` is below `2.1.1`
  by_patch : v.major ≡ w.major → v.minor ≡ w.minor → v.patch < w.patch → IsBelow v w
  -- `1.0.0-alpha` is below `1.0.0`
  before_release : HasSameTriple v w → IsPrerelease v → ¬ IsPrerelease w → IsBelow v w
  -- `1.0.0-alpha` is below `1.0.0-alpha.1`, which is below `1.0.0-beta`
  by_identifiers : HasSameTriple v w → IsPrerelease v → IsPrerelease w
      → IsListBelow IsIdentifierBelow v.pre_release w.pre_release → IsBelow v w

-- v and w have the same precedence: `1.0.0-beta+1` and `1.0.0-beta+2`
pub record IsSame (v w : VersionValue) : Type 0 where
  pub triple : HasSameTriple v w
  pub pre_release : v.pre_release ≡ w.pre_release

-- the result of a comparison: `Less` exactly if v is below w, `Equal` if they are the same, `Greater` if w is below v
pub record OrderMeans (v w : VersionValue) (ordering : Ordering) : Type 0 where
  pub below : (ordering ≡ Less) ↔ IsBelow v w
  pub same : (ordering ≡ Equal) ↔ IsSame v w
  pub above : (ordering ≡ Greater) ↔ IsBelow w v

-- the result of a comparison of two identifiers
pub record IdentifierOrderMeans (a b : IdentifierValue) (ordering : Ordering) : Type 0 where
  pub below : (ordering ≡ Less) ↔ IsIdentifierBelow a b
  pub same : (ordering ≡ Equal) ↔ (a ≡ b)
  pub above : (ordering ≡ Greater) ↔ IsIdentifierBelow b a
