-- Both read the text alike, and order versions alike.
use Rattle.npm_resolve_laws.proofs.Agreeing.{agrees}
use Rattle.npm_resolve_laws.proofs.picks.the_first_candidate_is_picked.Goals as goal

pub returns : goal.returns
returns c = λ packument options picking candidates text meaning answer alike once are means is.
    agrees packument options picking alike once candidates are text meaning answer means is
