use Rattle.std.proofs.Common.{◌∙◌, ap, option_map, string_bytes, sym}
use Rattle.serde_json.proofs.Views.{view-lookup}
use Rattle.serde_json.specs.View.{view}
use Rattle.npm_pick.specs.Lemmas.Readings.{exact}
use Rattle.npm_pick.proofs.member.release_in.Goals as goal

pub returns-in-Some-clause-key : goal.returns-in-Some-clause-key
returns-in-Some-clause-key c =
    c.as_str.ensures.value ∙ sym (exact c.args.key.now (string_bytes c.in-Some.key.now) c.in-Some.ensures.same_key)

pub returns-in-Some-clause-manifest : goal.returns-in-Some-clause-manifest
returns-in-Some-clause-manifest c =
    rw c.in_ok-listed.was (ap (option_map view) c.in-Some.ensures.value
    ∙ view-lookup c.args.key.now c.in_ok-listed.field-0.now.entries)

pub returns-in-None-clause-manifest : goal.returns-in-None-clause-manifest
returns-in-None-clause-manifest c =
    rw c.in_ok-listed.was (ap (option_map view) c.in-None.ensures.value
    ∙ view-lookup c.args.key.now c.in_ok-listed.field-0.now.entries)
