-- What stands under a name that is not wanted adds nothing.
use Rattle.std.proofs.Common.{◌≡◌, ◌∙◌, Some, rules, sym}
use Rattle.serde_json.specs.Find.{as_array}
use Rattle.serde_json.specs.View.{items_view, view}
use Rattle.npm_advisories.specs.Index.{has_name}
use Rattle.npm_advisories.specs.Lemmas.Adding.{adds-other}
use Rattle.npm_advisories.proofs.Results.{ok-at}
use Rattle.npm_advisories.specs.Lemmas.Unwanted.{member-other}
use Rattle.npm_advisories.proofs.read.read_member.Goals as goal

pub returns-then-not-has-clause-read : goal.returns-then-not-has-clause-read
returns-then-not-has-clause-read c =
    ok-at c.pass_list.result (λ sound. adds-other (has_name c.args.names.now) _ _
    (λ n is. member-other (has_name c.args.names.now) n is c.args.name.now (sym c.has.ensures ∙ c.if-not-has.true)
    (as_array (view c.args.list.now)))) c.pass_list.ensures.sound

pub returns-clause-read : goal.returns-clause-read
returns-clause-read c =
    let told : as_array (view c.args.list.now) ≡ Some (items_view c.as_slice-2.result.now) = search rules in
    rw told (ok-at c.read_list.result (λ adds. adds (has_name c.args.names.now)) c.read_list.ensures.read)
