-- Worked rows of the definitions: the dependencies of manifests, and what is installed.
use Rattle.std.proofs.Common.{◌≡◌, ℕ, Bool, List, [], ◌∷◌, Some, None, codes, false, refl, true}
use lib.Utf8.{encode}
use Rattle.std.specs.Str.{chars}
use Rattle.npm_texts.specs.WhiteSpace.{trimmed}
use Rattle.serde_json.specs.Data.{Data, member, no_members, null, object, string}
use Rattle.npm_pick_reports.specs.Asks.{AskValue, manifest_asks}
use Rattle.npm_packages.specs.Edges.{EdgeValue}
use Rattle.npm_pick_reports.specs.Installed.{is_elsewhere, is_from_web}
use Rattle.npm_pick_reports.specs.Mirror.{PackageValue, is_complete, request_of, texts_for}

abbrev ask : (name spec : List ℕ) → AskValue
ask name spec = record { name = name; spec = spec; is_overridden = false }

-- `{"a": "^1", "b": null}`
abbrev group : Data
group = object (member (codes "a") (string (codes "^1")) (member (codes "b") null no_members))

pub each_group_counts :
    manifest_asks (object (member (codes "dependencies") group (member (codes "devDependencies") group no_members)))
    ≡ ask (codes "a") (codes "^1") ∷ ask (codes "a") (codes "^1") ∷ []
each_group_counts = refl

pub an_alias_asks_for_what_it_names : request_of (ask (codes "a") (codes "npm:b@^1"))
    ≡ Some (record { name = codes "b"; text = codes "^1" })
unfolding trimmed chars encode
an_alias_asks_for_what_it_names = refl

pub a_repository_asks_no_registry : request_of (ask (codes "a") (codes "github:b/a")) ≡ None
a_repository_asks_no_registry = refl

pub an_override_is_not_read : request_of (record { name = codes "a"; spec = codes "^1"; is_overridden = true }) ≡ None
an_override_is_not_read = refl

pub a_name_has_its_own_texts : texts_for (codes "a") (record { name = codes "a"; text = codes "^1" }
    ∷ record { name = codes "b"; text = codes "^2" } ∷ record { name = codes "a"; text = codes "next" } ∷ [])
    ≡ codes "^1" ∷ codes "next" ∷ []
a_name_has_its_own_texts = refl

abbrev kept_package : (keys lacking : List (List ℕ)) → Bool → PackageValue
kept_package keys lacking is_absent = record { name = codes "@s/a"; keys = keys; lacking = lacking; is_absent = is_absent }

pub a_package_without_a_document_is_not_complete : is_complete (kept_package [] [] true) ≡ false
a_package_without_a_document_is_not_complete = refl

pub what_lacks_none_is : is_complete (kept_package (codes "1.0.0" ∷ []) [] false) ≡ true
what_lacks_none_is = refl

-- ---- what is installed

-- a dependency on `a`, for which the package in `node_modules/a` is found
abbrev edge : (spec : List ℕ) → (is_overridden : Bool) → EdgeValue
edge spec is_overridden = record {
  from = [];
  name = codes "a";
  spec = spec;
  is_needed = true;
  is_peer = false;
  is_dev = false;
  is_overridden = is_overridden;
  to = Some (codes "node_modules/a");
  version = Some (codes "1.0.0");
}

pub a_range_asks_a_registry : is_elsewhere (edge (codes "^1") false) ≡ false
a_range_asks_a_registry = refl

pub an_address_does_not : is_elsewhere (edge (codes "https://x.y/a.tgz") false) ≡ true
an_address_does_not = refl

pub what_an_override_makes_of_it_is_not_known : is_elsewhere (edge (codes "github:b/a") true) ≡ false
what_an_override_makes_of_it_is_not_known = refl

-- a package that is from there
abbrev from : (address : List ℕ) → Data
from address = object (member (codes "resolved") (string address) no_members)

pub an_archive_is_from_the_web : is_from_web (from (codes "https://r.io/a/-/a-1.0.0.tgz")) ≡ true
an_archive_is_from_the_web = refl

pub what_says_nothing_may_be : is_from_web (object no_members) ≡ true
what_says_nothing_may_be = refl

pub a_repository_is_not : is_from_web (from (codes "git+ssh://git@github.com/b/a.git#0")) ≡ false
a_repository_is_not = refl
