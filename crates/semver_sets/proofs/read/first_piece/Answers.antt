use Rattle.semver_sets.proofs.Ranges.PieceLemmas.{first-found, last-found}
use Rattle.semver_sets.proofs.read.first_piece.Goals as goal

pub returns-clause-first : goal.returns-clause-first
returns-clause-first c = first-found c.args.text.now c.next_piece.result.0.now c.next_piece.result.1
    c.next_piece.ensures

pub returns-clause-last : goal.returns-clause-last
returns-clause-last c = last-found c.args.text.now c.next_piece.result.0.now c.next_piece.result.1 c.next_piece.ensures
