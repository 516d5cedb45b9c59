use Rattle.semver_versions.proofs.Versions.VersionParse.{begun-release}
use Rattle.semver_versions.proofs.version.parse.whole_triple.Goals as goal

pub returns-in-Some-default-empty-clause-whole : goal.returns-in-Some-default-empty-clause-whole
returns-in-Some-default-empty-clause-whole c =
    let found = c.in-Some-default-empty in
    begun-release c.args.text.now found.field-0-1.now found.triple
    (record { short = c.if-text-gt-MAX_LENGTH.false; read = found.ensures }) found.len_below
