use Rattle.std.proofs.Common.{rules, ap, ◌∙◌}
use Rattle.std.specs.Hash.{fed_along}
use Rattle.semver_texts.specs.Identifier.{values_of}
use Rattle.semver_texts.specs.Hash.{version_writes}
use Rattle.semver_texts.specs.Lemmas.Hash.{version_writes-fields}
use Rattle.semver_versions.proofs.version.hash.VersionHash.hash.Goals as goal

pub returns : goal.returns
returns g c =
    let v = c.self.inside in
    let fields = version_writes-fields v.major v.minor v.patch v.pre_release.items (values_of v.build.items) in
    fed_along g.H.Hasher.write c.args.state.now c.hash-4.new.state (fields
    ∙ ap version_writes c.self.view_is) (search rules)
