-- The rules of a member come before those of the members that are left.
use Rattle.std.proofs.Common.{◌≡◌, ◌∙◌, ap, bytes_eq, string_bytes, sym}
use Rattle.serde_json.specs.View.{members_view, view}
use Rattle.npm_packages.specs.Overrides.{both, is_named_among, is_named_in, name_of, rule_if, unread}
use Rattle.npm_packages.specs.Rules.{rule_at}
use Rattle.npm_packages.proofs.OverrideRules.{any_unread, both_none, two_added}
use Rattle.npm_texts.specs.Lemmas.Objects.{is_object}
use Rattle.npm_packages.proofs.overrides.+add_inside.Goals as goal

pub loop-key-preserved : goal.loop-key-preserved
loop-key-preserved t c = λ name.
    let first = rw c.in-Some.ensures.steps at c.loop-key.invariant name in
    let named = rw (c.name_of.ensures, c.as_str.ensures.value) at c.in_ok-add_rule.ensures name in
    two_added (rule_at c.loop-key.rules name) _ _ (rule_if (bytes_eq (name_of (string_bytes c.in-Some.key.now)) name)
    unread)
    (rule_if (is_named_in name (view c.in-Some.value.now)) unread)
    (rule_if (is_named_among name (members_view c.next.new.self)) unread) named (c.in_ok-add_inside.ensures name)
    ∙ ap (both (rule_at c.loop-key.rules name)) (any_unread (bytes_eq (name_of (string_bytes c.in-Some.key.now)) name)
    (is_named_in name (view c.in-Some.value.now)) (is_named_among name (members_view c.next.new.self)))
    ∙ first

pub returns-in-None : goal.returns-in-None
returns-in-None t c = λ name.
    let entries : c.into_iter-key-iterator.result ≡ c.in-Object.members.entries = cc in
    let last = rw (entries, c.in-None.ensures.steps.0) at c.loop-key.invariant name in
    let whole = is_object c.args.value.now c.in-Object.members c.in-Object.is in
    rw whole (sym (both_none _) ∙ last)
