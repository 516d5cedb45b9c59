-- The laws of specs: the functions of `RangeText` and of `RegistrySpec` give what the grammar of specs says.
use Rattle.std.specs.Prelude.{◌≡◌, ◌↔◌, ℕ, List, Option, Some}
use Rattle.npm_texts.specs.RangeText.{aliased_name, spec_of}
use Rattle.npm_texts.specs.RegistrySpec.{IsRegistrySpec, RegistrySpecValue, registry_spec}
use Rattle.npm_texts.specs.SpecGrammar.{IsAliasOf, IsSpec, SpecValue}

-- `spec_of` gives this exactly if the text is this in the grammar
abbrev pub IsSpecAsWritten : (text : List ℕ) → SpecValue → Type 0
IsSpecAsWritten text value = (spec_of text ≡ value) ↔ IsSpec text value

-- the text is at most one thing of the grammar
abbrev pub IsOneSpec : (text : List ℕ) → Type 0
IsOneSpec text = (one other : SpecValue) → IsSpec text one → IsSpec text other → one ≡ other

-- `aliased_name` gives this name exactly if the text is an alias of it in the grammar
abbrev pub IsNamedAsWritten : (text name : List ℕ) → Type 0
IsNamedAsWritten text name = (aliased_name text ≡ Some name) ↔ IsAliasOf text name

-- `registry_spec` gives this exactly if a dependency on the name asks a registry for it by this spec
abbrev pub IsAskedAsWritten : (name spec : List ℕ) → RegistrySpecValue → Type 0
IsAskedAsWritten name spec one = (registry_spec name spec ≡ Some one) ↔ IsRegistrySpec name spec one
