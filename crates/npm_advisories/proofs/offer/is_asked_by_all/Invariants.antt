-- The texts so far admit the version.
use Rattle.npm_advisories.proofs.Offering.{Asked}
use Rattle.npm_advisories.proofs.offer.is_asked_by_all.Given as goal

abbrev pub invariant-loop-text : goal.invariant-loop-text
invariant-loop-text l = Asked (λ text. text.now) l.asked l.version l.text-index
