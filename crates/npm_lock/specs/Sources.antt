-- What is suspicious in where a package comes from, as `lockfile-lint` has it under "validate-package-names", "validate-https",
-- "allowed-hosts" and "validate-integrity"; and a version that is not the one npm installs.
use Rattle.std.specs.Prelude.{◌||◌, ◌&&◌, not, ℕ, List, [], ◌∷◌, ◌++◌, Bool, true, false, if◌then◌else◌, Option, Some, None}
use Rattle.std.specs.Prelude.{codes, filter, is_some, map, option_and_then, option_map, string_bytes}
use Rattle.std.specs.List.{flat_map, list_any}
use Rattle.std.specs.Option.{option_map_or}
use Rattle.serde_json.specs.Data.{Data, Members, member, no_members}
use Rattle.serde_json.specs.Find.{as_object, get}
use Rattle.npm_packages.specs.Packages.{Package, is_link}
use Rattle.npm_lock.specs.Addresses.{begins_with_digit, has_number, is_below, is_download, is_file_of, is_insecure, is_remote}
use Rattle.npm_lock.specs.Addresses.{is_same_name, is_same_version, registry_name, stem_in, version_in_file}
use Rattle.npm_lock.specs.Origins.{OriginValue, has_own, is_placed, old_origin_of, origin_of, said_in_file}
use Rattle.npm_lock.specs.Tarballs.{NameValue}
use Rattle.npm_lock.specs.VersionOne.{is_version_one, packages_below}
use Rattle.npm_lock.specs.declared.source.Source.{Source}
use Rattle.npm_lock.specs.declared.source.SourceKind.{SourceKind}
use Rattle.npm_lock.specs.declared.source.SourceKind.TheVariants.{Insecure, NoIntegrity, OtherHost, OtherPackage, OtherVersion}

-- ---- the file says a version, and npm installs the one that the address says

-- The file at an address in a registry is that of this version. All other files there are none of it.
abbrev pub is_of_version : (name : NameValue) → (version address : List ℕ) → Bool
is_of_version name version address = option_map_or (is_same_version version)
    (option_and_then (version_in_file name) (stem_in address)) false

-- another file that has the name of the package says another version. `a-next.tgz` says none
abbrev pub says_another : OriginValue → (version address : List ℕ) → Bool
says_another origin version address = option_map_or (λ said. begins_with_digit said && not (is_same_version version said))
    (option_and_then (said_in_file origin) (stem_in address)) false

-- A registry names each file for its version. Any other file may have any name, so there `integrity` confirms the version.
abbrev pub is_other_version : OriginValue → (version address : List ℕ) → Bool
is_other_version origin version address = option_map_or (λ name. not (is_of_version name version address))
    (registry_name address) (not origin.has_integrity && says_another origin version address)

abbrev pub has_other_version : OriginValue → Bool
has_other_version origin = option_map_or (λ version. option_map_or (is_other_version origin version) origin.address false)
    origin.version false

-- ---- the address is that of another package

-- the name of a file is that of another package: `b-1.0.0` for `a`. `v1.0.0` says no name
abbrev pub is_other_file : OriginValue → (stem : List ℕ) → Bool
is_other_file origin stem = has_number false stem && not (has_own (λ name. is_file_of name stem) origin)

abbrev pub is_other_package : OriginValue → (address : List ℕ) → Bool
is_other_package origin address = option_map_or (λ said. not (has_own (is_same_name said) origin)) (registry_name address)
    (option_map_or (is_other_file origin) (stem_in address) false)

-- ---- the host, and `integrity`

-- no registry is that of the address. If none is given, any host will do
abbrev pub is_other_host : (registries : List (List ℕ)) → (address : List ℕ) → Bool
is_other_host [] address = false
is_other_host (first ∷ others) address = is_remote address && not (list_any (is_below address) (first ∷ others))

-- npm downloads the package from its address, or from a registry if the file has a version alone and no other package brings it along
abbrev pub is_downloaded : OriginValue → Bool
is_downloaded origin = option_map_or is_download origin.address (is_some origin.version && not origin.is_bundled)

-- ---- all findings

-- whether this kind is found of a package
abbrev pub is_found : (registries : List (List ℕ)) → OriginValue → SourceKind → Bool
is_found registries origin OtherVersion = has_other_version origin
is_found registries origin OtherPackage = option_map_or (is_other_package origin) origin.address false
is_found registries origin Insecure = option_map_or is_insecure origin.address false
is_found registries origin OtherHost = option_map_or (is_other_host registries) origin.address false
is_found registries origin NoIntegrity = is_downloaded origin && not origin.has_integrity

-- their order
abbrev pub kinds : List SourceKind
kinds = OtherVersion ∷ OtherPackage ∷ Insecure ∷ OtherHost ∷ NoIntegrity ∷ []

-- a finding, with what the file says of the package
pub record SourceValue : Type 0 where
  pub kind : SourceKind
  pub folder : List ℕ
  pub version : Option (List ℕ)
  pub resolved : Option (List ℕ)

abbrev pub source_of : OriginValue → SourceKind → SourceValue
source_of origin kind =
    record { kind = kind; folder = origin.folder; version = origin.version; resolved = origin.address }

-- those of one package: each kind once
abbrev pub sources_of : (registries : List (List ℕ)) → OriginValue → List SourceValue
sources_of registries origin = map (source_of origin) (filter (is_found registries origin) kinds)

-- those of a member of `packages`: a link is no package, and npm installs only what is in some `node_modules`
abbrev pub sources_of_member : (registries : List (List ℕ)) → Package → List SourceValue
sources_of_member registries p =
    if not (is_link p.member) && is_placed p.folder then sources_of registries (origin_of p) else []

-- those of one member after another
abbrev pub sources_of_members : (registries : List (List ℕ)) → Members → List SourceValue
sources_of_members registries no_members = []
sources_of_members registries (member folder entry others) =
    sources_of_member registries (record { folder = folder; member = entry }) ++ sources_of_members registries others

-- those of a package in a file of version 1
abbrev pub old_sources : (registries : List (List ℕ)) → Package → List SourceValue
old_sources registries p = sources_of registries (old_origin_of p)

-- What is suspicious in a lock file of any version, as it was read: of each package in its order each kind that is found.
abbrev pub suspicious_sources : (registries : List (List ℕ)) → (file : Data) → List SourceValue
suspicious_sources registries file = if is_version_one file then flat_map (old_sources registries) (packages_below [] file)
    else option_map_or (sources_of_members registries) (option_and_then as_object (get (codes "packages") file)) []

-- ---- what a contract sees of them

abbrev pub source_value : Source → SourceValue
source_value source = record {
  kind = source.kind;
  folder = string_bytes source.folder;
  version = option_map string_bytes source.version;
  resolved = option_map string_bytes source.resolved;
}
