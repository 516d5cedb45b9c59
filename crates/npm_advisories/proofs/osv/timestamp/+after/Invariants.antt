-- The form gets shorter.
use Rattle.std.proofs.Common.{length}
use Rattle.npm_advisories.proofs.osv.timestamp.+after.Given as goal

abbrev pub decreases-after : goal.decreases-after
decreases-after l = length l.form.now
