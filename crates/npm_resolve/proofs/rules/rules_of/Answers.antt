-- There is a root, whose rules these are, or there is none.
use Rattle.std.proofs.Common.{◌≡◌, ◌∙◌, Some, None, ap, refl, sym}
use Rattle.std.proofs.Math.Path.{fun_ext}
use Rattle.std.proofs.lemmas.Result.{IfOk-weaker}
use Rattle.std.specs.Prelude.{option_and_then, slice_get}
use Rattle.serde_json.specs.View.{view}
use Rattle.npm_packages.specs.Overrides.{rule_in}
use Rattle.npm_packages.specs.Rules.{rule_at}
use Rattle.npm_resolve.proofs.rules.rules_of.Goals as goal

pub returns-in-Some : goal.returns-in-Some
returns-in-Some c =
    let root : slice_get c.args.manifests.now 0 ≡ Some c.in-Some.root.now = sym (rw c.in-Some.is at c.first.ensures.value) in
    IfOk-weaker c.rules_in.result _ _ (λ rules are. fun_ext (λ name. are name
    ∙ sym (ap (λ first. option_and_then (λ one. rule_in (view one) name) first) root))) c.rules_in.ensures

pub returns-in-None : goal.returns-in-None
returns-in-None c =
    let none : slice_get c.args.manifests.now 0 ≡ None = sym (rw c.in-None.is at c.first.ensures.value) in
    fun_ext (λ name.
    let empty : rule_at c.new.result name ≡ None = rw c.new.ensures.empty refl in
    empty ∙ sym (ap (λ first. option_and_then (λ one. rule_in (view one) name) first) none))
