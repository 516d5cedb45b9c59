use Rattle.std.specs.Str.{IsUtf8}
use Rattle.semver_keys.proofs.TextReading.{same-text}
use Rattle.semver_keys.proofs.read.text.plain_text.Goals as goal

pub returns-in-Err-clause-none : goal.returns-in-Err-clause-none
returns-in-Err-clause-none c other utf8 e =
    c.in-Err.ensures.cases.0 (same-text IsUtf8 _ other _ c.requires e utf8)
