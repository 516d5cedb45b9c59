-- The members so far are strings.
use Rattle.std.proofs.Common.{◌≡◌}
use Rattle.serde_json.specs.View.{members_view}
use Rattle.npm_packages.specs.Faults as Faults
use Rattle.npm_packages.proofs.fault.check_specs.Given as goal

abbrev pub invariant-loop-spec : goal.invariant-loop-spec
invariant-loop-spec l = Faults.are_texts (members_view l.initial.spec-iterator)
    ≡ Faults.are_texts (members_view l.spec-iterator)
