-- There is a root, whose rules these are, or there is none.
use Rattle.std.proofs.Common.{◌≡◌, [], Some, None, refl}
use Rattle.std.proofs.lemmas.Result.{IfOk-weaker}
use Rattle.serde_json.specs.Find.{get}
use Rattle.serde_json.specs.View.{view}
use Rattle.npm_packages.specs.PackageValue.{packages_data}
use Rattle.npm_packages.specs.Rules.{rule_at}
use Rattle.npm_packages.proofs.MemberLookups.{found_in}
use Rattle.npm_packages.proofs.overrides.rules_of.Goals as goal

pub returns-in-Some : goal.returns-in-Some
returns-in-Some c =
    let root : get [] (packages_data c.args.lock) ≡ Some (view c.in-Some.root.now) =
    found_in c.args.lock.members.now.entries [] (Some c.in-Some.root.now) (rw c.in-Some.is at c.get.ensures.value) in
    IfOk-weaker c.rules_in.result _ _ (λ rules are name. rw root (are name)) c.rules_in.ensures

pub returns-in-None : goal.returns-in-None
returns-in-None c = λ name.
    let root : get [] (packages_data c.args.lock) ≡ None =
    found_in c.args.lock.members.now.entries [] None (rw c.in-None.is at c.get.ensures.value) in
    let none : rule_at c.new.result name ≡ None = rw c.new.ensures.empty refl in
    rw root none
