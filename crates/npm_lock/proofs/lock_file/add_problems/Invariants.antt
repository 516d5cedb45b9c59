-- The findings so far, followed by those of the names that are left, are the findings of all names.
use Rattle.std.proofs.Common.{List}
use Rattle.std.specs.List.{AllZip}
use Rattle.serde_json.specs.View.{view}
use Rattle.npm_lock.specs.Findings.{Finding, IsDependencyFinding}
use Rattle.npm_lock.specs.Private.Adding.{Adds}
use Rattle.npm_packages.specs.Lemmas.NameLists.{AreAsked, names_of}
use Rattle.npm_packages.specs.PackageValue.{packages_data}
use Rattle.npm_lock.specs.declared.problem.Problems.{Problems}
use Rattle.npm_lock.proofs.lock_file.add_problems.Given as goal

abbrev pub invariant-loop-name : goal.invariant-loop-name
invariant-loop-name l = record {
  asked : AreAsked (view l.asker.member.now) l.is_installed l.name-iterator;
  found : (later : List Finding) (new : Problems)
      → AllZip (IsDependencyFinding (packages_data l.lock) l.asker.folder.now (view l.asker.member.now) l.is_installed)
      (names_of l.name-iterator) later
      → Adds l.problems new later
      → (found : List Finding)
      × AllZip (IsDependencyFinding (packages_data l.lock) l.asker.folder.now (view l.asker.member.now) l.is_installed)
      (names_of l.initial.name-iterator) found
      × Adds l.initial.problems new found;
}
