-- The spec and the package that is found make the dependency.
use Rattle.std.proofs.Common.{◌≡◌, ℕ, List, Bool, Option, Some, option_and_then, option_map}
use Rattle.serde_json.specs.Data.{Data}
use Rattle.npm_packages.specs.Asked.{AskedValue, asked_of}
use Rattle.npm_packages.specs.Edges.{IsEdge, dependency}
use Rattle.npm_packages.specs.Overrides.{overridden}
use Rattle.npm_packages.specs.Packages.{IsFound, Package, version_of}
use Rattle.npm_packages.proofs.edges.edge_of.Goals as goal

made : (packages : Data) (folder : List ℕ) (asker : Data) (is_installed : Bool) (name : List ℕ)
    (before changed : AskedValue) (found : Option Package) (to version : Option (List ℕ))
    → changed ≡ overridden packages folder name before → to ≡ option_map (λ there. there.folder) found
    → version ≡ option_and_then (λ there. version_of there.member) found
    → asked_of asker is_installed name ≡ Some before → IsFound packages name folder found
    → IsEdge packages folder asker is_installed name (record {
      from = folder;
      name = name;
      spec = changed.spec;
      is_needed = changed.is_needed;
      is_peer = changed.is_peer;
      is_dev = changed.is_dev;
      is_overridden = changed.is_overridden;
      to = to;
      version = version;
    })
made packages folder asker is_installed name before changed found to version same there written asked is =
    rw (same, there, written) (dependency before found asked is)

pub returns : goal.returns
returns c = λ is_installed before asked same.
    made _ _ _ is_installed _ before _ _ _ _ same c.folder_of.ensures c.found_version.ensures asked c.find-found.ensures.found
