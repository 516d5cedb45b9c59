-- The problems of workspaces come first, and those of ignored kinds and of what is omitted are left out.
use Rattle.npm_lock_check.proofs.checks.check.problems_of.Goals as goal

pub returns : goal.returns
returns c =
    let added = rw c.file.ensures.file at c.in_ok-add_workspaces.ensures in
    record {
      first = added.0;
      of_workspaces = added.1;
      all = c.in_ok-problems.problems;
      found = c.in_ok-problems.ensures;
      left = rw (rw added.2 at c.leave_out.ensures, c.file-2.ensures.file) at c.leave_out_omitted.ensures.problems;
      packages = c.leave_out_omitted.ensures.packages;
      dependencies = c.leave_out_omitted.ensures.dependencies;
      unchecked = rw c.file-2.ensures.file at c.leave_out_omitted.ensures.unchecked;
    }
