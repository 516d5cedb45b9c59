-- Which texts are above the limits of partials. Such a text refuses the whole range text, also in loose form, where every
-- other text that is no partial is ignored.
use Rattle.std.specs.Prelude.{◌≡◌, ◌⊎◌, ℕ, ◌<◌, ◌≤◌, Bool, false, List, [], ◌∷◌, ◌++◌, Option, length}
use Rattle.std.specs.List.{AllByRecursion}
use Rattle.semver_texts.specs.declared.TheConstants.{MAX_LENGTH, MAX_SAFE_INTEGER}
use Rattle.semver_texts.specs.Characters.{AreAll, BeginsWith, BeginsWithNo, dot, is_digit}
use Rattle.semver_texts.specs.NumberText.{number_of}
use Rattle.semver_sets.specs.PartialText.{IsComponentText, Partial}
use Rattle.npm_sets.specs.PartialGrammar.{IsNpmPartialText, IsUnpadded}
use Rattle.npm_sets.specs.WordTexts.{is_mark}

-- a partial of more than 256 bytes
pub record IsLongPartial (loose : Bool) (text : List ℕ) : Type 0 where
  pub partial : Partial
  pub read : IsNpmPartialText loose text partial
  pub long : MAX_LENGTH < length text

-- a component: `x`, `12`
pub record IsNpmComponent (loose : Bool) (text : List ℕ) (component : Option ℕ) : Type 0 where
  pub read : IsComponentText text component
  pub strict : loose ≡ false → IsUnpadded text

-- components with a dot after each: `1.x.`
unfoldable pub dotted : List (List ℕ) → List ℕ
dotted [] = []
dotted (component ∷ components) = component ++ (dot ∷ dotted components)

-- all digits at the start of the text write a number that is too large: `9007199254740992.foo`
pub record BeginsTooLarge (loose : Bool) (text : List ℕ) : Type 0 where
  pub digits : List ℕ
  pub rest : List ℕ
  pub whole : text ≡ digits ++ rest
  pub some : BeginsWith is_digit digits
  pub all : AreAll is_digit digits
  pub ends : BeginsWithNo is_digit rest
  pub strict : loose ≡ false → IsUnpadded digits
  pub large : MAX_SAFE_INTEGER < number_of digits

-- after marks and at most two components such a number stands, whatever follows it: `v1.9007199254740992.foo`
pub record HasLargeNumber (loose : Bool) (text : List ℕ) : Type 0 where
  pub marks : List ℕ
  pub before : List (List ℕ)
  pub rest : List ℕ
  pub whole : text ≡ marks ++ (dotted before ++ rest)
  pub all : AreAll is_mark marks
  pub few : length before ≤ 2
  pub components : AllByRecursion (λ part. (component : Option ℕ) × IsNpmComponent loose part component) before
  pub large : BeginsTooLarge loose rest

-- the text is above a limit
abbrev pub IsAboveLimit : Bool → List ℕ → Type 0
IsAboveLimit loose text = IsLongPartial loose text ⊎ HasLargeNumber loose text
