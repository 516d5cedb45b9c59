-- The hits of the first half, and those of the second.
use Rattle.std.proofs.Common.{◌∙◌, ◌++◌, [], ap, append-nil, append_assoc, sym}
use Rattle.npm_advisories.proofs.Halving.{kept-halves}
use Rattle.npm_advisories.proofs.Keeping.{none-hit}
use Rattle.npm_advisories.proofs.Results.{ok-at}
use Rattle.npm_advisories.proofs.halves.Halves.+add_hits.Goals as goal

pub returns-then-is_past : goal.returns-then-is_past
returns-then-is_past t c =
    let halves = rw c.in-Halved.is at c.requires in (
      [],
      sym (append-nil c.args.hits.now.items),
      none-hit c.args.level c.args.version.now c.args.advisories.now
          (c.is_past.ensures c.args.advisories.now halves.0 c.if-is_past.true),
    )

pub returns-in_ok-add_hits-in-Halved : goal.returns-in_ok-add_hits-in-Halved
returns-in_ok-add_hits-in-Halved t c =
    let first = c.in_ok-add_hits-in-Halved.ensures in
    ok-at c.add_hits-in-Halved.result (λ second. (
      first.0 ++ second.0,
      second.1 ∙ ap (λ l. l ++ second.0) first.1 ∙ append_assoc c.args.hits.now.items first.0 second.0,
      kept-halves c.args.level c.args.version.now c.args.advisories.now c.split_at.result.0.now
          c.split_at.result.1.now _ c.split_at.ensures.front c.split_at.ensures.back first.0 second.0 first.2 second.2,
    )) c.add_hits-in-Halved.ensures
