-- The range is that of the text.
use Rattle.npm_advisories.proofs.offer.is_asked_by.Goals as goal

pub returns-in-Some : goal.returns-in-Some
returns-in-Some c = λ yes.
    ((rw c.in-Some.is at c.in_ok-range.ensures.means) c.args.version.now).0 (c.satisfies.ensures.0 yes)

pub returns-in-None : goal.returns-in-None
returns-in-None c = λ never. cc never
