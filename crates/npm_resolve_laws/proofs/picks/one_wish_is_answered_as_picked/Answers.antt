-- The one choice is of the first candidate, which is the version that is picked.
use Rattle.std.proofs.Common.{◌∙◌, ap, map, sym}
use Rattle.npm_resolve.specs.Texts.{text}
use Rattle.serde_json.specs.View.{view}
use Rattle.npm_resolve_laws.proofs.Answering.{as_picked}
use Rattle.npm_resolve_laws.proofs.WishPosing.{alone_posed}
use Rattle.npm_resolve_laws.proofs.picks.one_wish_is_answered_as_picked.Goals as goal

pub returns : goal.returns
returns c = λ manifests document options reach omits wish request picking picked answer single alike once is answered none_unmet.
    let at = alone_posed manifests document options reach omits wish request single answered.posed answered.posing
    (sym answered.unmet ∙ ap (map text) none_unmet) in
    as_picked answered.posed answer.resolution answered.resolution document options wish request at picked
    (c.the_first_candidate_is_picked.ensures (view document.packument) options picking at.candidates request.text at.meaning picked
    alike once at.are at.is is)
