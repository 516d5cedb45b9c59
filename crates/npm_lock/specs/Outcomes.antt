-- What is wrong with a dependency, and with the version of Node: npm's "npm ls" and "package.json", "engines".
use Rattle.std.specs.Prelude.{◌≡◌, ◌||◌, not, ℕ, List, Bool, true, false, if◌then◌else◌, Option, Some, None}
use Rattle.std.specs.Prelude.{option_and_then, option_map, string_bytes, codes}
use Rattle.serde_json.specs.Data.{Data}
use Rattle.serde_json.specs.Find.{as_str, get}
use Rattle.node_semver.specs.Versions.{VersionValue, version_text}
use Rattle.npm_lock.specs.declared.problem.Kind.{Kind}
use Rattle.npm_lock.specs.declared.problem.Kind.TheVariants.{Engine, Invalid, Missing, PeerLocal}
use Rattle.npm_lock.specs.declared.problem.Dependency.{Dependency}
use Rattle.npm_lock.specs.declared.problem.Problem.{Problem}
use Rattle.npm_lock.specs.declared.problem.Unchecked.{Unchecked}
use Rattle.npm_lock.specs.declared.problem.Reason.{Reason}
use Rattle.npm_lock.specs.declared.problem.Reason.TheVariants as Reasons
use Rattle.npm_lock.specs.declared.verdict.Verdict.{Verdict}
use Rattle.npm_lock.specs.declared.verdict.Verdict.TheVariants as Verdicts
use Rattle.npm_packages.specs.Asked.{AskedValue, accepted_of}
use Rattle.npm_packages.specs.Edges.{EdgeValue}
use Rattle.npm_texts.specs.Admission.{Admits, of_engines}
use Rattle.npm_texts.specs.Truth.{has_true}
use Rattle.npm_packages.specs.Packages.{IsFound, IsFoundIn, Package}
pub use Rattle.npm_packages.specs.Packages.{version_of}
use Rattle.npm_lock.specs.Verdict.{IsVerdictOfBoth}
use Rattle.npm_lock.specs.Workspaces.{IsWorkspaceAs}
use Rattle.npm_lock.specs.declared.workspace.Workspace.TheVariants as Workspaces

-- A dependency of a package, and the package that was found for it: the package in the folder `from` depends on the name
-- by this spec, and the package in `to` was found.
pub record DependencyValue : Type 0 where
  pub from : List ℕ
  pub from_version : Option (List ℕ)
  pub name : List ℕ
  pub spec : List ℕ
  pub to : Option (List ℕ)
  pub version : Option (List ℕ)
  pub dev : Bool
  pub optional : Bool
  pub peer : Bool

-- a problem with a dependency
pub record ProblemValue : Type 0 where
  pub kind : Kind
  pub dependency : DependencyValue

-- a dependency that is not checked, and why
pub record UncheckedValue : Type 0 where
  pub reason : Reason
  pub dependency : DependencyValue

-- what a contract sees of them
abbrev pub dependency_value : Dependency → DependencyValue
dependency_value dependency = record {
  from = string_bytes dependency.from;
  from_version = option_map string_bytes dependency.from_version;
  name = string_bytes dependency.name;
  spec = string_bytes dependency.spec;
  to = option_map string_bytes dependency.to;
  version = option_map string_bytes dependency.version;
  dev = dependency.dev;
  optional = dependency.optional;
  peer = dependency.peer;
}

abbrev pub problem_value : Problem → ProblemValue
problem_value problem = record { kind = problem.kind; dependency = dependency_value problem.dependency }

abbrev pub unchecked_value : Unchecked → UncheckedValue
unchecked_value unchecked =
    record { reason = unchecked.reason; dependency = dependency_value unchecked.dependency }

-- the word for a kind of problem, by which a user leaves problems of that kind out
abbrev pub kind_text : Kind → List ℕ
kind_text Missing = codes "missing"
kind_text Invalid = codes "invalid"
kind_text PeerLocal = codes "peer-local"
kind_text Engine = codes "engine"

-- ---- dependencies

-- the lock file marks the package so, as in `"dev": true`, or the dependency itself is so
abbrev pub is_marked : (mark : List ℕ) → (member : Data) → (is_so : Bool) → Bool
is_marked mark member is_so = has_true mark member || is_so

-- A dependency of a package, with the package that was found. It is `dev` if the lock file marks the package so, or the name is in
-- `devDependencies`; `optional` if it marks the package so, or the name need not be found; and `peer` if it marks the package so, or the
-- name is in `peerDependencies`.
abbrev pub dependency_of : (asker : Data) → EdgeValue → DependencyValue
dependency_of asker edge = record {
  from = edge.from;
  from_version = version_of asker;
  name = edge.name;
  spec = edge.spec;
  to = edge.to;
  version = edge.version;
  dev = is_marked (codes "dev") asker edge.is_dev;
  optional = is_marked (codes "optional") asker (not edge.is_needed);
  peer = is_marked (codes "peer") asker edge.is_peer;
}

-- a peer of an installed package that is in the `node_modules` of that very package
pub record IsLocalPeer (packages : Data) (folder : List ℕ) (is_installed : Bool) (name : List ℕ) (asked : AskedValue)
    (package_found : Package) : Type 0 where
  pub peer : asked.is_peer ≡ true
  pub installed : is_installed ≡ true
  pub own : IsFoundIn packages name folder package_found

-- The verdict on the package that was found for a dependency of the package in this folder. A workspace of the root
-- satisfies each spec of the root; if it may be one, the dependency is not checked. Nor is one that `overrides` change
-- in a way that is not read here.
pub data IsVerdictOn (folder : List ℕ) (asker : Data) (name : List ℕ) (asked : AskedValue)
    (package_found : Package) : Verdict → Type 0 where
  workspace : IsWorkspaceAs folder asker name package_found Workspaces.Is
      → IsVerdictOn folder asker name asked package_found Verdicts.Valid
  unread : IsWorkspaceAs folder asker name package_found Workspaces.Unread
      → IsVerdictOn folder asker name asked package_found (Verdicts.Unchecked Reasons.Workspace)
  overridden : IsWorkspaceAs folder asker name package_found Workspaces.IsNot → asked.is_overridden ≡ true
      → IsVerdictOn folder asker name asked package_found (Verdicts.Unchecked Reasons.Override)
  by_spec : (verdict : Verdict) → IsWorkspaceAs folder asker name package_found Workspaces.IsNot
      → asked.is_overridden ≡ false
      → IsVerdictOfBoth (version_of package_found.member) asked.spec (accepted_of asker name) verdict
      → IsVerdictOn folder asker name asked package_found verdict

-- the judgement of a dependency: nothing is wrong; something is, with the package that was found, if one was; or it is
-- not checked
pub data JudgementValue : Type 0 where
  fine : JudgementValue
  wrong : Kind → Option Package → JudgementValue
  unknown : Reason → Package → JudgementValue

-- the judgement of a dependency of the package in this folder
pub data IsOutcome (packages : Data) (folder : List ℕ) (asker : Data) (is_installed : Bool) (name : List ℕ)
    (asked : AskedValue) : JudgementValue → Type 0 where
  absent : IsFound packages name folder None → asked.is_needed ≡ false
      → IsOutcome packages folder asker is_installed name asked fine
  missing : IsFound packages name folder None → asked.is_needed ≡ true
      → IsOutcome packages folder asker is_installed name asked (wrong Missing None)
  local_peer : (found : Package) → IsFound packages name folder (Some found)
      → IsLocalPeer packages folder is_installed name asked found
      → IsOutcome packages folder asker is_installed name asked (wrong PeerLocal (Some found))
  invalid : (found : Package) → IsFound packages name folder (Some found)
      → ¬ IsLocalPeer packages folder is_installed name asked found
      → IsVerdictOn folder asker name asked found Verdicts.Invalid
      → IsOutcome packages folder asker is_installed name asked (wrong Invalid (Some found))
  valid : (found : Package) → IsFound packages name folder (Some found)
      → ¬ IsLocalPeer packages folder is_installed name asked found
      → IsVerdictOn folder asker name asked found Verdicts.Valid
      → IsOutcome packages folder asker is_installed name asked fine
  unchecked : (found : Package) (reason : Reason) → IsFound packages name folder (Some found)
      → ¬ IsLocalPeer packages folder is_installed name asked found
      → IsVerdictOn folder asker name asked found (Verdicts.Unchecked reason)
      → IsOutcome packages folder asker is_installed name asked (unknown reason found)

-- ---- the version of Node

-- A package's range for Node: `>=18` of `{"engines": {"node": ">=18"}}`. Old packages have a list there, which says
-- nothing. An optional package is not asked: npm leaves it out where its engines do not fit.
abbrev pub engine_of : (member : Data) → Option (List ℕ)
engine_of member = if has_true (codes "optional") member then None
    else option_and_then as_str (option_and_then (get (codes "node")) (get (codes "engines") member))

-- the dependency on Node, of which this version is found
abbrev pub engine_edge : (folder spec : List ℕ) → (version : Option (List ℕ)) → EdgeValue
engine_edge folder spec version = record {
  from = folder;
  name = codes "node";
  spec = spec;
  is_needed = true;
  is_peer = false;
  is_dev = false;
  is_overridden = false;
  to = None;
  version = version;
}

-- The version of Node does not satisfy the range that the package in this folder has for it. The lock file alone says
-- whether this is `dev`, `optional` or `peer`.
abbrev pub engine_problem : (folder : List ℕ) → (member : Data) → (spec : List ℕ) → VersionValue → ProblemValue
engine_problem folder member spec node =
    record { kind = Engine; dependency = dependency_of member (engine_edge folder spec (Some (version_text node))) }

-- the problem of the package in this folder with a version of Node, or none
pub data IsEngineOutcome (node : VersionValue) (folder : List ℕ) (member : Data) : Option ProblemValue → Type 0 where
  unsaid : engine_of member ≡ None → IsEngineOutcome node folder member None
  admitted : (spec : List ℕ) → engine_of member ≡ Some spec → Admits of_engines spec node
      → IsEngineOutcome node folder member None
  engine : (spec : List ℕ) → engine_of member ≡ Some spec → ¬ Admits of_engines spec node
      → IsEngineOutcome node folder member (Some (engine_problem folder member spec node))
