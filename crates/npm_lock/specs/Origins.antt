-- What a lock file says of where a package comes from: npm's "package-lock.json", `resolved`, `integrity` and `inBundle`.
use Rattle.std.specs.Prelude.{◌||◌, ◌&&◌, not, ℕ, List, Bool, true, false, if◌then◌else◌, Option, Some, None, codes, nat_eq}
use Rattle.std.specs.Prelude.{option_and_then, option_map}
use Rattle.std.specs.List.{starts_with}
use Rattle.std.specs.Option.{option_map_or, option_or}
use Rattle.serde_json.specs.Data.{Data}
use Rattle.npm_texts.specs.RangeText.{SpecValue, aliased_name, in_registry, location, refused, spec_of}
use Rattle.npm_texts.specs.Truth.{has_true}
use Rattle.npm_packages.specs.Folders.{is_modules}
use Rattle.npm_packages.specs.Packages.{Package}
use Rattle.npm_lock.specs.Addresses.{version_in_file}
use Rattle.npm_lock.specs.Identity.{registry_text, text_in}
use Rattle.npm_lock.specs.Tarballs.{NameValue, name_at_end, parts_at_slash}
use Rattle.npm_lock.specs.declared.origin.Origin.{Origin}

-- what a lock file says of the package in a folder: the name behind an alias, its version, and the address at which npm looks for it
pub record OriginValue : Type 0 where
  pub folder : List ℕ
  pub alias : Option (List ℕ)
  pub version : Option (List ℕ)
  pub address : Option (List ℕ)
  pub has_integrity : Bool
  pub is_bundled : Bool

-- The folder of a package that npm installs: it is in some `node_modules`, under a name. So is `w/node_modules/@s/a`, but no workspace
-- `w`.
abbrev pub is_placed : (folder : List ℕ) → Bool
is_placed folder = is_modules (parts_at_slash folder).0
    || (starts_with nat_eq (parts_at_slash (parts_at_slash folder).0).1 (codes "@")
    && is_modules (parts_at_slash (parts_at_slash folder).0).0)

-- the sum of a tarball, of which npm knows the algorithm
abbrev pub is_sum : (text : List ℕ) → Bool
is_sum text = starts_with nat_eq text (codes "sha512-") || starts_with nat_eq text (codes "sha384-")
    || starts_with nat_eq text (codes "sha256-") || starts_with nat_eq text (codes "sha1-")

abbrev pub has_sum : (entry : Data) → Bool
has_sum entry = option_map_or is_sum (text_in (codes "integrity") entry) false

-- what a file of version 2 or 3 says
abbrev pub origin_of : Package → OriginValue
origin_of p = record {
  folder = p.folder;
  alias = text_in (codes "name") p.member;
  version = text_in (codes "version") p.member;
  address = text_in (codes "resolved") p.member;
  has_integrity = has_sum p.member;
  is_bundled = has_true (codes "inBundle") p.member;
}

-- ---- version 1, where `version` is a version, an alias with one, or an address

-- the address that `version` is
abbrev pub address_as : (text : List ℕ) → SpecValue → Option (List ℕ)
address_as text location = Some text
address_as text (in_registry _) = None
address_as text refused = None

abbrev pub address_in_version : (entry : Data) → Option (List ℕ)
address_in_version entry = option_and_then (λ text. address_as text (spec_of text)) (text_in (codes "version") entry)

-- npm looks where `version` says if there is `integrity`, and else where `resolved` says
abbrev pub old_address : (entry : Data) → Option (List ℕ)
old_address entry = if has_sum entry
    then option_or (address_in_version entry) (text_in (codes "resolved") entry)
    else option_or (text_in (codes "resolved") entry) (address_in_version entry)

abbrev pub old_alias : (entry : Data) → Option (List ℕ)
old_alias entry = option_and_then aliased_name (text_in (codes "version") entry)

abbrev pub old_version : (entry : Data) → Option (List ℕ)
old_version entry = option_and_then (λ text. registry_text (spec_of text)) (text_in (codes "version") entry)

-- what a file of version 1 says
abbrev pub old_origin_of : Package → OriginValue
old_origin_of p = record {
  folder = p.folder;
  alias = old_alias p.member;
  version = old_version p.member;
  address = old_address p.member;
  has_integrity = has_sum p.member;
  is_bundled = has_true (codes "bundled") p.member;
}

-- ---- names

-- this is so of one name of the package: that of its folder, or that behind its alias
abbrev pub has_own : (is_own : NameValue → Bool) → OriginValue → Bool
has_own is_own origin =
    is_own (name_at_end origin.folder) || option_map_or (λ alias. is_own (name_at_end alias)) origin.alias false

-- what the name of a file says of the version, if it is that of the package
abbrev pub said_in_file : OriginValue → (stem : List ℕ) → Option (List ℕ)
said_in_file origin stem = option_or (version_in_file (name_at_end origin.folder) stem)
    (option_and_then (λ alias. version_in_file (name_at_end alias) stem) origin.alias)

-- ---- what a contract sees of it

abbrev pub origin_value : Origin → OriginValue
origin_value origin = record {
  folder = origin.folder.now;
  alias = option_map (λ text. text.now) origin.alias;
  version = option_map (λ text. text.now) origin.version;
  address = option_map (λ text. text.now) origin.address;
  has_integrity = origin.has_integrity;
  is_bundled = origin.is_bundled;
}
