use Rattle.std.proofs.lemmas.Str.{IsUtf8-from_ascii}
use Rattle.semver_pairs.proofs.text.text_of.Goals as goal

pub from_utf8_unchecked-requires : goal.from_utf8_unchecked-requires
from_utf8_unchecked-requires c = IsUtf8-from_ascii c.args.line.now (c.is_ascii_line.ensures c.if-is_ascii_line.true)

pub returns-then-is_ascii_line-clause-text : goal.returns-then-is_ascii_line-clause-text
returns-then-is_ascii_line-clause-text c = (
  c.from_utf8_unchecked.ensures,
  IsUtf8-from_ascii c.args.line.now (c.is_ascii_line.ensures c.if-is_ascii_line.true),
)
