-- There are members, whose rules these are, or there are none.
use Rattle.std.proofs.Common.{◌≡◌, Some, None, refl, sym}
use Rattle.std.proofs.lemmas.Result.{IfOk-weaker}
use Rattle.serde_json.specs.View.{members_view, view}
use Rattle.npm_packages.specs.Overrides.{overrides_in}
use Rattle.npm_packages.specs.Rules.{rule_at}
use Rattle.npm_packages.proofs.overrides.rules_in.Goals as goal

pub returns-in-Some : goal.returns-in-Some
returns-in-Some c =
    let at : overrides_in (view c.args.manifest.now) ≡ Some (members_view c.in-Some.members.now.entries) =
    sym (rw c.in-Some.is at c.overrides_in.ensures) in
    IfOk-weaker c.rules_among.result _ _ (λ rules are name. rw at (are name)) c.rules_among.ensures

pub returns-in-None : goal.returns-in-None
returns-in-None c = λ name.
    let at : overrides_in (view c.args.manifest.now) ≡ None = sym (rw c.in-None.is at c.overrides_in.ensures) in
    let none : rule_at c.new.result name ≡ None = rw c.new.ensures.empty refl in
    rw at none
