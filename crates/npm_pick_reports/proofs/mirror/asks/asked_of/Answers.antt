-- The dependencies of the manifests, and then those of the lock file.
use Rattle.std.proofs.Common.{◌∙◌, ◌++◌, ap}
use Rattle.npm_pick_reports.proofs.mirror.asks.asked_of.Goals as goal

pub returns-clause-asks : goal.returns-clause-asks
returns-clause-asks c =
    let locked = c.in_ok-installed.ensures.added in
    record {
      locked = locked.0;
      of_lock = locked.1;
      whole = locked.2 ∙ ap (λ l. l ++ locked.0) (rw c.new-asks.ensures.items at c.in_ok-add_manifests.ensures);
    }
