-- What a dependency asks a registry for: npm's "package.json", "dependencies", and `npm-package-arg`.
use Rattle.std.specs.Prelude.{ℕ, List, Option, Some, None, is_some, if◌then◌else◌, option_map}
use Rattle.npm_texts.specs.RangeText.{alias_target, aliased_name, spec_of}
use Rattle.npm_texts.specs.SpecGrammar.{IsAlias, IsAliasOf, IsSpec, SpecValue, in_registry, location, refused}
use Rattle.npm_texts.specs.WhiteSpace.{trimmed}
use Rattle.npm_texts.specs.declared.registry.RegistrySpec.{RegistrySpec}

-- a package of a registry, and the version, the range or the tag of it
pub record RegistrySpecValue : Type 0 where
  pub name : List ℕ
  pub text : List ℕ

-- what a contract sees of it
abbrev pub registry_spec_value : RegistrySpec → RegistrySpecValue
registry_spec_value spec = record { name = spec.name.now; text = spec.text.now }

-- A dependency on this name by this spec asks for that: `^1` of `a` for the text `^1` of the package `a`, and `npm:b@^1`
-- for that of `b`. White space at the ends of the text does not count. A URL, a repository, a file, a folder and a refused spec ask for nothing, and neither does an alias
-- without a name, as `npm:^1`.
pub data IsRegistrySpec (name spec : List ℕ) : RegistrySpecValue → Type 0 where
  of_name : (text : List ℕ) → ((target : List ℕ) → ¬ IsAlias spec target) → IsSpec spec (in_registry text)
      → IsRegistrySpec name spec (record { name = name; text = trimmed text })
  of_alias : (aliased text : List ℕ) → IsAliasOf spec aliased → IsSpec spec (in_registry text)
      → IsRegistrySpec name spec (record { name = aliased; text = trimmed text })

-- ---- the same as a function: the law `specs_are_those_of_the_grammar` says that it gives what is defined above

-- the package: that of the alias, if the spec is one, or else that of the dependency's name
abbrev pub package_name : (name spec : List ℕ) → Option (List ℕ)
package_name name spec = if is_some (alias_target spec) then aliased_name spec else Some name

-- this text of a package, if the spec has one
abbrev pub of_package : (named : Option (List ℕ)) → SpecValue → Option RegistrySpecValue
of_package named (in_registry text) = option_map (λ name. record { name = name; text = trimmed text }) named
of_package named location = None
of_package named refused = None

abbrev pub registry_spec : (name spec : List ℕ) → Option RegistrySpecValue
registry_spec name spec = of_package (package_name name spec) (spec_of spec)
