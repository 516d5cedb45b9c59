-- Those so far are the keys of the candidates so far that ask for the wish.
use Rattle.std.proofs.Common.{map}
use Rattle.npm_resolve.specs.Explanations.{AreKeys}
use Rattle.npm_resolve.specs.Texts.{text}
use Rattle.npm_resolve.proofs.explained.keys_of.Given as goal

abbrev pub invariant-loop-candidate : goal.invariant-loop-candidate
invariant-loop-candidate l = AreKeys l.posed l.name l.fn.wish l.candidate (map text l.keys.items)
