-- Those so far belong to the items so far.
use Rattle.std.proofs.Common.{take}
use Rattle.std.specs.List.{AllZip}
use Rattle.npm_resolve.specs.Instance.{IsOffer}
use Rattle.npm_resolve.proofs.instance.offers_of.Given as goal

abbrev pub invariant-loop-document : goal.invariant-loop-document
invariant-loop-document l = AllZip (IsOffer l.options) (take l.document-index l.documents) l.offers.items
