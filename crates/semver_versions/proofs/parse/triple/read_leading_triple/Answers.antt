use Rattle.semver_versions.specs.Lemmas.Versions.LeadingTriple.{leading-read}
use Rattle.semver_versions.proofs.parse.triple.read_leading_triple.Goals as goal

pub returns : goal.returns
returns c =
    leading-read c.args.text.now c.in-Ok.rest.now c.in-Ok.major c.read_minor_and_patch.result c.ok.result
    c.in-Ok.ensures c.read_minor_and_patch.ensures c.ok.ensures.value
