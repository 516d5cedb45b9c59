-- The findings so far, followed by those of the members that are left, are the findings of all members.
use Rattle.std.proofs.Common.{List, option_map}
use Rattle.serde_json.specs.View.{members_view}
use Rattle.npm_lock.specs.Findings.{AreFindings, Finding, IsReport}
use Rattle.npm_lock.specs.Private.Adding.{Adds}
use Rattle.npm_packages.specs.PackageValue.{packages_data}
use Rattle.npm_lock.specs.declared.problem.Problems.{Problems}
use Rattle.npm_lock.proofs.lock_file.problems_of.Given as goal

abbrev pub invariant-loop-folder : goal.invariant-loop-folder
invariant-loop-folder l = (later : List Finding) (new : Problems)
    → AreFindings (packages_data l.lock) (option_map (λ version. version.now) l.node)
    (members_view l.folder-iterator) later
    → Adds l.problems new later
    → (found : List Finding)
    × AreFindings (packages_data l.lock) (option_map (λ version. version.now) l.node)
    (members_view l.initial.folder-iterator) found
    × IsReport found new
