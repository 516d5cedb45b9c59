-- What the grammar of specs says of some texts. Each row is computed, and means what it says by the law that the functions
-- and the grammar agree.
use Rattle.std.proofs.Common.{◌≡◌, ◌∷◌, ℕ, List, [], Some, codes, map, refl}
use Rattle.std.specs.List.{AllByRecursion}
use Rattle.npm_texts.specs.RangeText.{spec_of}
use Rattle.npm_texts.specs.SpecGrammar.{IsAliasOf, IsLocation, IsSpec, alias, archive, both, from_dot, in_registry, location}
use Rattle.npm_texts.specs.SpecGrammar.{refused, tar_gz, tgz}
use Rattle.npm_texts.proofs.Specs.SpecReading.{named-as_written, no-location, spec-written, value-written}

-- ---- ranges and tags

pub nothing : IsSpec (codes "") (in_registry (codes "*"))
nothing = spec-written _

pub a_range : IsSpec (codes "^1.2") (in_registry (codes "^1.2"))
a_range = spec-written _

pub a_tag : IsSpec (codes "latest") (in_registry (codes "latest"))
a_tag = spec-written _

-- a `:` makes a URL only after a scheme
pub a_colon_in_a_range : IsSpec (codes "^1 || a:b") (in_registry (codes "^1 || a:b"))
a_colon_in_a_range = spec-written _

-- a `:` after a host that npm does not know, and what is no end of an archive
pub another_host : IsSpec (codes "^1 || git@x.y:z") (in_registry (codes "^1 || git@x.y:z"))
another_host = spec-written _

pub a_user_alone : IsSpec (codes "x@y:z") (in_registry (codes "x@y:z"))
a_user_alone = spec-written _

pub no_archive : IsSpec (codes "a.targz") (in_registry (codes "a.targz"))
no_archive = spec-written _

-- ---- aliases

pub an_alias : IsSpec (codes "npm:a@^1") (in_registry (codes "^1"))
an_alias = spec-written _

pub in_capitals : IsSpec (codes "NPM:@s/a@^1") (in_registry (codes "^1"))
in_capitals = spec-written _

pub a_name_alone : IsSpec (codes "npm:@s/a") (in_registry (codes "*"))
a_name_alone = spec-written _

pub no_range : IsSpec (codes "npm:a@") (in_registry (codes "*"))
no_range = spec-written _

pub no_name : IsSpec (codes "npm:^1") (in_registry (codes "^1"))
no_name = spec-written _

pub a_number_is_a_name : IsSpec (codes "npm:2") (in_registry (codes "*"))
a_number_is_a_name = spec-written _

pub an_alias_of_a_repository : IsSpec (codes "npm:a@github:b/c") refused
an_alias_of_a_repository = spec-written _

-- ---- locations

all-located : (texts : List (List ℕ)) → map spec_of texts ≡ map (λ (text : List ℕ). location) texts
    → AllByRecursion (λ (text : List ℕ). IsSpec text location) texts
all-located [] h = tt
all-located (text ∷ texts) h = (value-written text location (cc h), all-located texts (cc h))

abbrev some_locations : List (List ℕ)
some_locations =
    codes "." ∷ codes "../a" ∷ codes "a/b" ∷ codes "github:a" ∷ codes "git+ssh:a" ∷ codes "git@gist.github.com:11081aaa281"
    ∷ codes "workspace:*" ∷ codes "npx:a@^1" ∷ codes "a-1.0.0.tgz" ∷ codes "a.tar.gz" ∷ codes "a.tar" ∷ codes "b.TGZ"
    ∷ codes "b.tar-gz" ∷ codes "b.tAr gZ" ∷ codes "^1 || git@gist.github.com:a" ∷ []

pub locations : AllByRecursion (λ (text : List ℕ). IsSpec text location) some_locations
locations = all-located some_locations refl

-- ---- the names of aliases

pub the_name : IsAliasOf (codes "npm:a@^1") (codes "a")
the_name = (named-as_written _ _).0 refl

pub a_scope_and_a_name : IsAliasOf (codes "NPM:@s/a@^1") (codes "@s/a")
a_scope_and_a_name = (named-as_written _ _).0 refl

-- a range without a name, and a refused alias, are aliases of no package
pub no_name_in_range : (name : List ℕ) → ¬ IsAliasOf (codes "npm:^1") name
no_name_in_range name is = cc ((named-as_written (codes "npm:^1") name).1 is)

pub no_name_in_refused : (name : List ℕ) → ¬ IsAliasOf (codes "npm:a@github:b/c") name
no_name_in_refused name is = cc ((named-as_written (codes "npm:a@github:b/c") name).1 is)

-- ---- by hand

by_hand : IsSpec (codes "Npm:@s/a@^1") (in_registry (codes "^1"))
by_hand = alias (codes "@s/a@^1") (Some (codes "@s/a")) (codes "^1")
    (record { scheme = codes "Npm:"; whole = refl; npm = refl })
    (both 64 (codes "s/a") (codes "^1") refl refl) (no-location (codes "^1") refl)

folder_by_hand : IsLocation (codes "./a.tgz")
folder_by_hand = from_dot (codes "/a.tgz") refl

archive_by_hand : IsLocation (codes "./a.tgz")
archive_by_hand = archive (codes "./a") (codes ".tgz") refl (tgz refl)

-- any character of ASCII does for the second dot
another_dot_by_hand : IsLocation (codes "a.Tar-GZ")
another_dot_by_hand =
    archive (codes "a") (codes ".Tar-GZ") refl (tar_gz (codes ".Tar") (codes "GZ") 45 refl refl refl refl)
