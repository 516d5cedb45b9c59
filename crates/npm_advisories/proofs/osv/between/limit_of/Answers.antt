-- The last of the limits is the greatest.
use Rattle.std.proofs.Common.{◌-◌, arith, length}
use Rattle.npm_advisories.proofs.OsvEnds.{up-to-greatest}
use Rattle.npm_advisories.proofs.osv.between.limit_of.Goals as goal

pub returns-in-len1-up : goal.returns-in-len1-up
returns-in-len1-up c =
    up-to-greatest c.args.limits.now c.greatest-item.result c.requires.0 (length c.args.limits.now - 1)
    (omega (arith, c.in-len1-up.len_at_least)) c.greatest-item.is
