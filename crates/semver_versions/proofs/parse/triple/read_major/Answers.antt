use Rattle.std.proofs.Common.{ap, sym, ◌∙◌}
use Rattle.semver_texts.specs.Reading.{read_number}
use Rattle.semver_versions.specs.Lemmas.Versions.VersionReading.{digit-first}
use Rattle.semver_versions.proofs.parse.triple.read_major.Goals as goal

pub returns-in-len1-up : goal.returns-in-len1-up
returns-in-len1-up c =
    c.read_number.ensures
    ∙ ap read_number (digit-first c.args.text.now c.in-len1-up.len_at_least (sym c.if-is_digit.ensures))
