-- What the candidates so far ask for was added.
use Rattle.std.proofs.Common.{List, take}
use Rattle.std.specs.List.{AllZip, flat_map}
use Rattle.npm_resolve.specs.Asks.{AskValue}
use Rattle.npm_resolve.specs.Documents.{IsPeer}
use Rattle.npm_resolve.specs.Private.Gathering.{AreAdded}
use Rattle.npm_resolve.specs.Rules.{rules_of}
use Rattle.npm_resolve.proofs.requests.Requests.add_peers.Given as goal

abbrev pub invariant-loop-candidate : goal.invariant-loop-candidate
invariant-loop-candidate l = (each : List (List AskValue)) × AllZip (IsPeer l.reach (rules_of l.manifests) l.omits) (take l.candidate-index l.candidate-items) each
    × AreAdded (flat_map (λ (asks : List AskValue). asks) each) l.initial.self l.self
