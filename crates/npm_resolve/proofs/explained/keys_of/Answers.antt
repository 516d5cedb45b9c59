-- One candidate more asks for the wish, or does not.
use Rattle.std.proofs.Common.{◌≡◌, ◌∙◌, false, sym, true}
use Rattle.npm_resolve.specs.Explanations.{none}
use Rattle.npm_resolve.proofs.Keys.{asks_more, other_more}
use Rattle.npm_resolve.proofs.explained.keys_of.Goals as goal
use Rattle.npm_resolve.proofs.explained.keys_of.Goals.{else-is_of, then-is_of+in_ok-push}

pub loop-candidate-init : goal.loop-candidate-init
loop-candidate-init c = rw c.new-keys.ensures.items none

pub loop-candidate-preserved : goal.loop-candidate-preserved
loop-candidate-preserved c = elim c.if-is_of.branch [
  | then-is_of+in_ok-push w ↦ rw w.keys-is (asks_more c.args.posed.now c.args.name c.args.wish c.loop-candidate.candidate
      c.loop-candidate.keys.items c.loop-candidate.invariant w.push.new.self.items w.key_of.result (c.is_of.ensures.0 w.if-is_of.true)
      w.key_of.ensures w.in_ok-push.ensures.items)
  | else-is_of w ↦ rw w.keys-is (other_more c.args.posed.now c.args.name c.args.wish c.loop-candidate.candidate
      c.loop-candidate.keys.items c.loop-candidate.invariant
      (λ makes. let differs : true ≡ false = sym (c.is_of.ensures.1 makes) ∙ w.if-is_of.false in absurd (cc)))
]
