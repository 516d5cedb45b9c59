-- Whether a version satisfies a dependency's spec: npm's "package.json", "dependencies".
use Rattle.std.specs.Prelude.{◌≡◌, ℕ, List, Bool, true, false, Option, Some, None, IfSome, bytes_eq, codes}
use Rattle.std.specs.Str.{trim}
use Rattle.node_semver.specs.Versions.{VersionValue}
use Rattle.npm_texts.specs.Admission.{Admits, IsNoRange, of_dependencies}
use Rattle.npm_texts.specs.InstalledVersions.{IsInstalledVersion}
use Rattle.npm_texts.specs.SpecGrammar.{IsSpec, in_registry, is_tag, location, refused}
use Rattle.npm_lock.specs.declared.problem.Reason.TheVariants.{Location, Tag}
use Rattle.npm_lock.specs.declared.verdict.Verdict.{Verdict}
use Rattle.npm_lock.specs.declared.verdict.Verdict.TheVariants.{Invalid, Unchecked, Valid}

-- ---- dependencies

-- `*` admits any version, a prerelease too
abbrev pub asks_for_any : (text : List ℕ) → Bool
asks_for_any text = bytes_eq (trim text) (codes "*")

-- The verdict on a text that is a range or a tag, for the version of the package that was found, if it has one. A text
-- that is no range is a tag where it can be one. A text that npm reads no version in does not satisfy a range.
pub data IsVerdictOfText (version : Option (List ℕ)) (text : List ℕ) : Verdict → Type 0 where
  any : asks_for_any text ≡ true → IsVerdictOfText version text Valid
  tag : asks_for_any text ≡ false → IsNoRange of_dependencies text → is_tag text ≡ true
      → IsVerdictOfText version text (Unchecked Tag)
  bad_range : asks_for_any text ≡ false → IsNoRange of_dependencies text → is_tag text ≡ false
      → IsVerdictOfText version text Invalid
  satisfied : (written : List ℕ) (v : VersionValue) → asks_for_any text ≡ false → ¬ IsNoRange of_dependencies text
      → version ≡ Some written → IsInstalledVersion written v → Admits of_dependencies text v
      → IsVerdictOfText version text Valid
  unsatisfied : (written : List ℕ) (v : VersionValue) → asks_for_any text ≡ false → ¬ IsNoRange of_dependencies text
      → version ≡ Some written → IsInstalledVersion written v → ¬ Admits of_dependencies text v
      → IsVerdictOfText version text Invalid
  no_version : asks_for_any text ≡ false → ¬ IsNoRange of_dependencies text
      → IfSome version (λ written. (v : VersionValue) → ¬ IsInstalledVersion written v)
      → IsVerdictOfText version text Invalid

-- the verdict on a spec alone: a location is not checked, and what npm refuses no version satisfies
pub data IsVerdict (version : Option (List ℕ)) (spec : List ℕ) : Verdict → Type 0 where
  elsewhere : IsSpec spec location → IsVerdict version spec (Unchecked Location)
  never : IsSpec spec refused → IsVerdict version spec Invalid
  of_text : (range : List ℕ) (verdict : Verdict) → IsSpec spec (in_registry range) → IsVerdictOfText version range
      verdict
      → IsVerdict version spec verdict

-- the better of two verdicts: `Valid` before `Unchecked` before `Invalid`, and of two that are not checked the first
abbrev pub better : Verdict → Verdict → Verdict
better Valid second = Valid
better (Unchecked reason) Valid = Valid
better (Unchecked reason) (Unchecked other) = Unchecked reason
better (Unchecked reason) Invalid = Unchecked reason
better Invalid second = second

-- the verdict on a spec, beside which another may be accepted: the better one counts
pub data IsVerdictOfBoth (version : Option (List ℕ)) (spec : List ℕ) (accepted : Option (List ℕ)) : Verdict → Type 0
  where
    alone : (verdict : Verdict) → accepted ≡ None → IsVerdict version spec verdict
        → IsVerdictOfBoth version spec accepted verdict
    valid : IsVerdict version spec Valid → IsVerdictOfBoth version spec accepted Valid
    both : (other : List ℕ) (first second : Verdict) → accepted ≡ Some other → IsVerdict version spec first
        → IsVerdict version other second → IsVerdictOfBoth version spec accepted (better first second)
