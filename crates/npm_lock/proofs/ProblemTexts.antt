-- A dependency that is made of copies of texts.
use Rattle.std.proofs.Common.{◌≡◌, Bool, Option, String, Global, codes, not, option_map, refl, string_bytes}
use Rattle.serde_json.specs.Data.{Data}
use Rattle.npm_packages.specs.Edges.{EdgeValue}
use Rattle.npm_lock.specs.Outcomes.{DependencyValue, ProblemValue, dependency_of, dependency_value, is_marked, version_of}
use Rattle.npm_lock.specs.declared.problem.Kind.{Kind}

pub of_copies : (from name spec : String Global) (from_version to version : Option (String Global))
    (dev optional peer : Bool) (asker : Data) (edge : EdgeValue)
    → string_bytes from ≡ edge.from → option_map string_bytes from_version ≡ version_of asker
    → string_bytes name ≡ edge.name → string_bytes spec ≡ edge.spec → option_map string_bytes to ≡ edge.to
    → option_map string_bytes version ≡ edge.version
    → dev ≡ is_marked (codes "dev") asker edge.is_dev
    → optional ≡ is_marked (codes "optional") asker (not edge.is_needed)
    → peer ≡ is_marked (codes "peer") asker edge.is_peer
    → dependency_value (record {
      from = from;
      from_version = from_version;
      name = name;
      spec = spec;
      to = to;
      version = version;
      dev = dev;
      optional = optional;
      peer = peer;
    })
    ≡ dependency_of asker edge
of_copies from name spec from_version to version dev optional peer asker edge a b c d e f g h i =
    rw (a, b, c, d, e, f, g, h, i) refl

-- what holds of a problem with a dependency holds of one with the same
pub moved : (P : ProblemValue → Type 0) (kind : Kind) (made wanted : DependencyValue) → made ≡ wanted
    → P (record { kind = kind; dependency = wanted }) → P (record { kind = kind; dependency = made })
moved P kind made wanted same holds = rw same holds
