-- The rules of a member come before those of the members that are left.
use Rattle.std.proofs.Common.{◌≡◌, ◌∙◌, None, bytes_eq, refl, string_bytes, sym}
use Rattle.serde_json.specs.View.{members_view, view}
use Rattle.npm_packages.specs.Overrides.{is_named_in, name_of, rule_among, rule_if, rule_of, unread}
use Rattle.npm_packages.specs.Rules.{rule_at}
use Rattle.npm_packages.proofs.OverrideRules.{both_none, two_added}
use Rattle.npm_packages.proofs.overrides.rules_among.Goals as goal

pub loop-key-init : goal.loop-key-init
loop-key-init c = λ name.
    let none : rule_at c.new-rules.result name ≡ None = rw c.new-rules.ensures.empty refl in
    rw none refl

pub loop-key-preserved : goal.loop-key-preserved
loop-key-preserved c = λ name.
    let first = rw c.in-Some.ensures.steps at c.loop-key.invariant name in
    let named = rw (c.name_of.ensures, c.rule_of.ensures, c.as_str-key.ensures.value) at c.in_ok-add_rule.ensures name
    in
    two_added (rule_at c.loop-key.rules name) _ _
    (rule_if (bytes_eq (name_of (string_bytes c.in-Some.key.now)) name)
    (rule_of (string_bytes c.in-Some.key.now) (view c.in-Some.value.now)))
    (rule_if (is_named_in name (view c.in-Some.value.now)) unread) (rule_among name (members_view c.next.new.self))
    named
    (c.in_ok-add_inside.ensures name) ∙ first

pub returns : goal.returns
returns c = λ name.
    let entries : c.into_iter-key-iterator.result ≡ c.args.members.now.entries = cc in
    let last = rw (entries, c.in-None.ensures.steps.0) at c.loop-key.invariant name in
    sym (both_none _) ∙ last
