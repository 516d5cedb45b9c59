-- The texts so far are those of the requests so far.
use Rattle.std.proofs.Common.{◌≡◌, ℕ, List, map, take}
use Rattle.npm_pick_reports.specs.Mirror.{texts_for}
use Rattle.npm_texts.specs.RegistrySpec.{registry_spec_value}
use Rattle.npm_pick_reports.specs.Private.Requests.{at_name}
use Rattle.npm_pick_reports.proofs.mirror.requests.Groups.of_requests.Given as goal

abbrev pub invariant-loop-request : goal.invariant-loop-request
invariant-loop-request l = (name : List ℕ) → map (λ text. text.now) (at_name l.groups name)
    ≡ texts_for name (map registry_spec_value (take l.request-index l.requests))
