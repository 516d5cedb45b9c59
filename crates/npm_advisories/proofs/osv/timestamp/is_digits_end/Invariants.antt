-- The bytes that are left decide.
use Rattle.std.proofs.Common.{◌≡◌, drop}
use Rattle.npm_advisories.specs.Timestamps.{is_digits_end}
use Rattle.npm_advisories.proofs.osv.timestamp.is_digits_end.Given as goal

abbrev pub invariant-loop-i : goal.invariant-loop-i
invariant-loop-i l = is_digits_end l.text ≡ is_digits_end (drop l.i l.text)
