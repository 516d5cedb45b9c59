use Rattle.std.proofs.Common.{sym}
use Rattle.semver_sets.proofs.Words.PartialViews.{digit-first_byte}
use Rattle.semver_sets.proofs.partial.skip_to_components.Goals as goal

pub returns-in-len1-up : goal.returns-in-len1-up
returns-in-len1-up c = digit-first_byte c.args.text.now c.in-len1-up.len_at_least (sym c.if-is_digit.ensures)
