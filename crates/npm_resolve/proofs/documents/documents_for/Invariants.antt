-- What was asked for so far is read, or waits.
use Rattle.std.proofs.Common.{List}
use Rattle.std.specs.Fn.{FnReturnsAt}
use Rattle.npm_resolve.specs.Asks.{AskValue}
use Rattle.npm_resolve.specs.Private.Gathering.{AreGathered}
use Rattle.npm_resolve.specs.Rules.{rules_of}
use Rattle.npm_resolve.specs.Wishes.{AreWishes}
use Rattle.npm_resolve.proofs.documents.documents_for.Given as goal

abbrev pub invariant-loop : goal.invariant-loop
invariant-loop g l = (wishes left_out : List AskValue) × AreWishes (rules_of l.manifests) l.omits l.manifests wishes left_out
    × AreGathered (FnReturnsAt g.F.Fn l.load) l.options l.reach (rules_of l.manifests) l.omits wishes l.documents.items l.requests
