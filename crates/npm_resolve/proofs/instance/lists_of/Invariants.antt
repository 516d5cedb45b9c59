-- Those so far belong to the items so far.
use Rattle.std.proofs.Common.{take}
use Rattle.std.specs.List.{AllZip}
use Rattle.npm_packages.specs.Rules.{rule_at}
use Rattle.npm_resolve.specs.Instance.{IsListedFor}
use Rattle.npm_resolve.proofs.instance.lists_of.Given as goal

abbrev pub invariant-loop-offer : goal.invariant-loop-offer
invariant-loop-offer l = AllZip (IsListedFor l.reach (rule_at l.rules) l.omits) (take l.offer-index l.offers) l.lists.items
