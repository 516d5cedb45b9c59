use Rattle.std.proofs.lemmas.Str.{IsUtf8-from_ascii}
use Rattle.semver_texts.specs.Lemmas.Texts.Characters.{ascii-characters}
use Rattle.semver_texts.proofs.identifier.borrowed.borrowed_of.Goals as goal

pub from_utf8_unchecked-requires : goal.from_utf8_unchecked-requires
from_utf8_unchecked-requires c = IsUtf8-from_ascii c.args.text.now (ascii-characters c.args.text.now c.requires)
