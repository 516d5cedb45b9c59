-- Which problems a lock file has, in which order, and the counts: npm's "npm ls" and "package-lock.json",
-- "packages".
use Rattle.std.specs.Prelude.{◌≡◌, ◌↔◌, ◌-◌, ◌^◌, ℕ, List, [], ◌∷◌, ◌++◌, Bool, true, false, IsTrue, min, Option, Some}
use Rattle.std.specs.Prelude.{None, codes, map, count_by}
use Rattle.std.specs.Bool.{MatchBool}
use Rattle.std.specs.Cmp.Lexicographic.{slice_cmp}
use Rattle.std.specs.List.{AllZip, filter_map}
use Rattle.std.specs.List.Sorted.{IsStrictlySortedBy}
use Rattle.std.specs.Ordering.{nat_cmp}
use Rattle.serde_json.specs.Data.{Data, Members, member, no_members, object}
use Rattle.serde_json.specs.Find.{get}
use Rattle.node_semver.specs.Versions.{VersionValue}
use Rattle.npm_texts.specs.ObjectKeys.{keys_of}
use Rattle.npm_packages.specs.Asked.{AreNames, AskedValue, asked_of}
use Rattle.npm_packages.specs.Edges.{edge_of}
use Rattle.npm_packages.specs.Folders.{IsInstalled}
use Rattle.npm_lock.specs.Outcomes.{IsEngineOutcome, IsOutcome, JudgementValue, ProblemValue, UncheckedValue}
use Rattle.npm_lock.specs.Outcomes.{dependency_of, fine, problem_value, unchecked_value, unknown, wrong}
use Rattle.npm_packages.specs.Overrides.{overridden}
use Rattle.npm_packages.specs.Packages.{is_link}
use Rattle.npm_lock.specs.declared.problem.Problems.{Problems}

-- a finding about a package, its problem with the version of Node; or about a dependency
pub data Finding : Type 0 where
  of_package : (problem : Option ProblemValue) → Finding
  of_dependency : (problem : Option ProblemValue) → (unchecked : Option UncheckedValue) → Finding

-- ---- a dependency, and all of one package

-- the finding about a dependency: its problem, or why it is not checked
abbrev pub finding_of : (folder : List ℕ) → (asker : Data) → (name : List ℕ) → AskedValue → JudgementValue → Finding
finding_of folder asker name asked fine = of_dependency None None
finding_of folder asker name asked (wrong kind found) =
    of_dependency (Some (record { kind = kind; dependency = dependency_of asker (edge_of folder name asked found) })) None
finding_of folder asker name asked (unknown reason found) = of_dependency None
    (Some (record { reason = reason; dependency = dependency_of asker (edge_of folder name asked (Some found)) }))

-- the finding about the dependency of the package in this folder on a name, as `overrides` change it
pub data IsDependencyFinding (packages : Data) (folder : List ℕ) (asker : Data) (is_installed : Bool) (name : List ℕ)
    : Finding → Type 0 where
  dependency : (asked : AskedValue) (judgement : JudgementValue) → asked_of asker is_installed name ≡ Some asked
      → IsOutcome packages folder asker is_installed name (overridden packages folder name asked) judgement
      → IsDependencyFinding packages folder asker is_installed name
      (finding_of folder asker name (overridden packages folder name asked) judgement)

-- the findings about the dependencies of the package in this folder: one for each name, in their order
pub record AreDependencyFindings (packages : Data) (folder : List ℕ) (asker : Data) (found : List Finding)
    : Type 0 where
  pub is_installed : Bool
  pub installed : IsTrue is_installed ↔ IsInstalled folder
  pub names : List (List ℕ)
  pub are_names : AreNames asker is_installed names
  pub each : AllZip (IsDependencyFinding packages folder asker is_installed) names found

-- ---- a package, and all of them

-- the problem with the version of Node, if one is given
abbrev pub IsNodeOutcome : (node : Option VersionValue) → (folder : List ℕ) → (asker : Data)
    → Option ProblemValue → Type 0
IsNodeOutcome None folder asker problem = problem ≡ None
IsNodeOutcome (Some node) folder asker problem = IsEngineOutcome node folder asker problem

-- of a package first the version of Node, and then its dependencies
pub record ArePackageFindings (packages : Data) (node : Option VersionValue) (folder : List ℕ) (asker : Data)
    (found : List Finding) : Type 0 where
  pub problem : Option ProblemValue
  pub dependencies : List Finding
  pub of_node : IsNodeOutcome node folder asker problem
  pub of_dependencies : AreDependencyFindings packages folder asker dependencies
  pub whole : found ≡ of_package problem ∷ dependencies

-- a link is no package, and nothing is found out about it
abbrev pub AreMemberFindings : (packages : Data) → (node : Option VersionValue) → (folder : List ℕ) → (entry : Data)
    → (found : List Finding) → Type 0
AreMemberFindings packages version folder entry found =
    MatchBool (is_link entry) (found ≡ []) (ArePackageFindings packages version folder entry found)

-- the findings of one member after another
abbrev pub AreFindings : (packages : Data) → (node : Option VersionValue) → Members → (found : List Finding) → Type 0
AreFindings packages version no_members found = found ≡ []
AreFindings packages version (member folder entry others) found = (here : List Finding) × (later : List Finding)
    × AreMemberFindings packages version folder entry here × AreFindings packages version others later
    × (found ≡ here ++ later)

-- ---- the list of problems, and the counts

-- the problem that was found, if there is one
abbrev pub problem_of : Finding → Option ProblemValue
problem_of (of_package problem) = problem
problem_of (of_dependency problem unchecked) = problem

-- the dependency that is not checked, if it is one
abbrev pub unchecked_of : Finding → Option UncheckedValue
unchecked_of (of_package problem) = None
unchecked_of (of_dependency problem unchecked) = unchecked

-- which findings each count counts
abbrev pub is_package : Finding → Bool
is_package (of_package problem) = true
is_package (of_dependency problem unchecked) = false

abbrev pub is_dependency : Finding → Bool
is_dependency (of_package problem) = false
is_dependency (of_dependency problem unchecked) = true

-- a count in 64 bits, which stops at their greatest number
abbrev pub counted : ℕ → ℕ
counted n = min n (2 ^ 64 - 1)

-- the problems, the dependencies that are not checked, and the counts of these findings
pub record IsReport (found : List Finding) (problems : Problems) : Type 0 where
  pub list : map problem_value problems.list.items ≡ filter_map problem_of found
  pub unchecked : map unchecked_value problems.unchecked.items ≡ filter_map unchecked_of found
  pub packages : problems.packages ≡ counted (count_by is_package found)
  pub dependencies : problems.dependencies ≡ counted (count_by is_dependency found)

-- ---- a lock file

-- the problems and counts of a lock file, whose `packages` are in the order of their folders' bytes
pub record IsChecked (lock : Data) (node : Option VersionValue) (problems : Problems) : Type 0 where
  pub members : Members
  pub packages : get (codes "packages") lock ≡ Some (object members)
  pub ascending : IsStrictlySortedBy (slice_cmp nat_cmp) (keys_of members)
  pub found : List Finding
  pub findings : AreFindings (object members) node members found
  pub report : IsReport found problems
