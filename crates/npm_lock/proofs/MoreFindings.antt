-- What is found out about one name and one package, as the contracts say it.
use Rattle.std.proofs.Common.{◌≡◌, ℕ, List, [], ◌∷◌, false, Option, Some, codes, refl}
use Rattle.std.specs.List.Sorted.{IsStrictlySortedBy}
use Rattle.std.specs.Cmp.Lexicographic.{slice_cmp}
use Rattle.std.specs.Ordering.{nat_cmp}
use Rattle.serde_json.specs.Data.{Data, Members, object}
use Rattle.serde_json.specs.Find.{get}
use Rattle.node_semver.specs.Versions.{VersionValue}
use Rattle.npm_lock.specs.Findings.{AreDependencyFindings, AreMemberFindings, Finding}
use Rattle.npm_lock.specs.Findings.{AreFindings, IsChecked, IsReport}
use Rattle.npm_texts.specs.ObjectKeys.{keys_of}
use Rattle.npm_lock.specs.Findings.{IsNodeOutcome, of_package}
use Rattle.npm_lock.specs.Outcomes.{ProblemValue}
use Rattle.npm_packages.specs.Packages.{is_link}
use Rattle.npm_lock.specs.Private.Adding.{Adds}
use Rattle.npm_lock.specs.declared.problem.Problems.{Problems}
use Rattle.npm_lock.proofs.Reports.{adds_both}

pub member_found : (packages : Data) (version : Option VersionValue) (folder : List ℕ) (asker : Data)
    (old between new : Problems) (problem : Option ProblemValue) → is_link asker ≡ false
    → IsNodeOutcome version folder asker problem → Adds old between (of_package problem ∷ [])
    → (found : List Finding) × AreDependencyFindings packages folder asker found × Adds between new found
    → (found : List Finding) × AreMemberFindings packages version folder asker found × Adds old new found
member_found packages version folder asker old between new problem no_link of_node first rest = (
  of_package problem ∷ rest.0,
  rw no_link (record {
    problem = problem;
    dependencies = rest.0;
    of_node = of_node;
    of_dependencies = rest.1;
    whole = refl;
  }),
  adds_both old between new (of_package problem ∷ []) rest.0 first rest.2,
)

pub checked_by : (lock : Data) (members : Members) (version : Option VersionValue) (problems : Problems)
    → get (codes "packages") lock ≡ Some (object members)
    → IsStrictlySortedBy (slice_cmp nat_cmp) (keys_of members)
    → (found : List Finding) × AreFindings (object members) version members found × IsReport found problems
    → IsChecked lock version problems
checked_by lock members version problems at_packages sorted all = record {
  members = members;
  packages = at_packages;
  ascending = sorted;
  found = all.0;
  findings = all.1;
  report = all.2;
}
