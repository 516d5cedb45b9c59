-- Worked rows of the definitions: dependencies that are outdated.
use Rattle.std.proofs.Common.{◌≡◌, ℕ, Bool, List, [], Option, Some, None, codes, false, refl, true}
use Rattle.npm_pick_reports.specs.Outdated.{RowValue, is_current, is_passed}
use Rattle.npm_packages.specs.Edges.{EdgeValue}

abbrev row : (version : Option (List ℕ)) → RowValue
row version = record {
  edge = record {
    from = [];
    name = codes "a";
    spec = codes "^1";
    is_needed = true;
    is_peer = false;
    is_dev = false;
    is_overridden = false;
    to = None;
    version = version;
  };
  wanted = codes "1.2.0";
  latest = codes "2.0.0";
}

pub the_latest_is_current : is_current (row (Some (codes "2.0.0"))).edge (codes "2.0.0") (codes "2.0.0") ≡ true
the_latest_is_current = refl

pub wanted_alone_is_not : is_current (row (Some (codes "1.2.0"))).edge (codes "1.2.0") (codes "2.0.0") ≡ false
wanted_alone_is_not = refl

-- ---- what is left out

-- a dependency of the package in this folder, for which a package is found or not
abbrev edge : (from : List ℕ) → (is_needed is_peer is_dev is_overridden : Bool) → (to : Option (List ℕ)) → EdgeValue
edge from is_needed is_peer is_dev is_overridden to = record {
  from = from;
  name = codes "a";
  spec = codes "^1";
  is_needed = is_needed;
  is_peer = is_peer;
  is_dev = is_dev;
  is_overridden = is_overridden;
  to = to;
  version = None;
}

pub one_of_the_root_counts : is_passed false (edge [] true false false false None) ≡ false
one_of_the_root_counts = refl

pub one_of_another_package_does_not : is_passed false (edge (codes "node_modules/b") true false false false None) ≡ true
one_of_another_package_does_not = refl

pub unless_all_do : is_passed true (edge (codes "node_modules/b") true false false false None) ≡ false
unless_all_do = refl

pub one_that_overrides_change_does_not : is_passed true (edge [] true false false true (Some (codes "node_modules/a"))) ≡ true
one_that_overrides_change_does_not = refl

pub a_peer_that_is_missing_does_not : is_passed true (edge [] true true false false None) ≡ true
a_peer_that_is_missing_does_not = refl

pub one_in_development_that_is_missing_does_not : is_passed true (edge [] true false true false None) ≡ true
one_in_development_that_is_missing_does_not = refl
