-- What the definitions say of packages that are installed.
use Rattle.std.proofs.Common.{◌≡◌, ℕ, List, [], ◌∷◌, Some, codes, false, refl, true}
use Rattle.serde_json.specs.Data.{member, no_members, object, string}
use Rattle.npm_packages.specs.Asked.{AskedValue}
use Rattle.npm_resolve.specs.Installed.{InstalledValue, found}
use Rattle.npm_resolve.specs.Marks.{of_both, of_dev, of_optional, of_peers}
use Rattle.npm_resolve.specs.Members.{has_script}
use Rattle.npm_resolve.specs.Reached.{leads}

pub a_test_is_no_script_of_an_install : has_script (object (member (codes "scripts")
    (object (member (codes "test") (string (codes "x")) no_members)) no_members)) ≡ false
a_test_is_no_script_of_an_install = refl

abbrev one : (version : List ℕ) → InstalledValue
one version = record { name = codes "a"; of_package = codes "a"; version = version; manifest = object no_members }

pub the_last_of_a_name_counts : found (one (codes "1.0.0") ∷ one (codes "2.0.0") ∷ []) (codes "a") ≡ Some (one (codes "2.0.0"))
the_last_of_a_name_counts = refl

-- ---- dependencies that lead on

abbrev optional_dependency : AskedValue
optional_dependency = record { spec = codes "1"; is_needed = false; is_peer = false; is_dev = false; is_overridden = false }

pub an_optional_dependency_leads_nowhere_without_optional_ones : leads of_optional optional_dependency ≡ false
an_optional_dependency_leads_nowhere_without_optional_ones = refl

pub it_leads_on_without_those_for_development : leads of_dev optional_dependency ≡ true
it_leads_on_without_those_for_development = refl

pub a_peer_that_may_be_missing_is_both : leads of_peers (record optional_dependency { is_peer = true }) ≡ false
a_peer_that_may_be_missing_is_both = refl

pub a_dependency_for_development_is_in_neither : leads of_both (record optional_dependency { is_needed = true; is_dev = true }) ≡ false
a_dependency_for_development_is_in_neither = refl
