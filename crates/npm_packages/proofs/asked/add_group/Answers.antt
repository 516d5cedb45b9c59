-- A member is inserted, and no member after it has its name.
use Rattle.std.proofs.Common.{◌≡◌, ◌∙◌, false, not, rules, ap, bytes_eq, Some, None, option_and_then, option_map, refl}
use Rattle.std.proofs.Common.{string_bytes, sym}
use Rattle.std.proofs.lemmas.Map.Text.{btree_map_updates_str}
use Rattle.std.specs.List.Sorted.{IsStrictlySortedBy}
use Rattle.serde_json.specs.Find.{as_str, get, get_member}
use Rattle.serde_json.specs.View.{members_view, view}
use Rattle.npm_packages.specs.Asked.{is_optional_peer}
use Rattle.npm_packages.specs.PackageValue.{asked_value}
use Rattle.npm_packages.specs.Names.{at_name}
use Rattle.npm_packages.specs.Private.Groups.{is_needed_in}
use Rattle.npm_packages.proofs.Groups.{absent, no_text, of_none, of_peer, of_plain, seen_update, with_text}
use Rattle.npm_texts.specs.Lemmas.Objects.{in_group}
use Rattle.npm_packages.proofs.asked.add_group.Goals as goal
use Rattle.npm_packages.proofs.asked.add_group.Goals.{then-is_needed, then-is_peer, else-is_peer, else-is_needed}

pub loop-name-init : goal.loop-name-init
loop-name-init c =
    let entries : c.into_iter-name-iterator.result ≡ c.in-Some.specs.now.entries = cc in
    record { sorted = rw entries c.iter-name-items.ensures.ordered; left = λ name. refl }

pub loop-name-preserved-in_ok-insert : goal.loop-name-preserved-in_ok-insert
unfolding IsStrictlySortedBy
loop-name-preserved-in_ok-insert c =
    let sorted = rw c.in-Some-2.ensures.steps at c.loop-name.invariant.sorted in
    let text : as_str (view c.in-Some-2.spec.now) ≡ Some c.in-Some-as_str.spec.now =
    sym c.as_str.ensures ∙ ap (option_map (λ s. s.now)) c.in-Some-as_str.is in
    let needed : c.if-is_needed.is_needed
    ≡ is_needed_in (view c.args.asker.now) c.args.is_needed c.args.is_peer c.as_str-name.result.now = elim
    c.if-is_needed.branch [
      | then-is_needed w ↦ elim w.if-is_peer.branch [
        | then-is_peer v ↦ of_peer _ _ _ _ w.if-is_needed.true v.if-is_peer.true
            (w.is_needed-is ∙ ap not (v.is_needed-is ∙ v.is_optional_peer.ensures))
        | else-is_peer v ↦ of_plain _ _ _ _ w.if-is_needed.true v.if-is_peer.false
            (w.is_needed-is ∙ ap not (v.is_needed-is ∙ v.if-is_peer.false))
      ]
      | else-is_needed w ↦ of_none _ c.args.is_peer (is_optional_peer (view c.args.asker.now) c.as_str-name.result.now)
          _
          w.if-is_needed.false (w.is_needed-is ∙ w.if-is_needed.false)
    ] in
    record {
      sorted = sorted.1;
      left = λ name.
          let updated = btree_map_updates_str c.as_str-name.result.now c.loop-name.all c.insert.new.self _
          c.in_ok-insert.ensures.updates name in
          let seen = ap (option_map asked_value) updated ∙ seen_update asked_value
          (bytes_eq c.as_str-name.result.now name) _ _ in
          with_text (λ n spec. record {
            spec = spec;
            is_needed = is_needed_in (view c.args.asker.now) c.args.is_needed
                c.args.is_peer n;
            is_peer = c.args.is_peer;
            is_dev = c.args.is_dev;
            is_overridden = false;
          }) _ name
          (string_bytes c.in-Some-2.name.now) c.in-Some-as_str.spec.now (view c.in-Some-2.spec.now)
          (members_view c.next.new.self) (at_name c.loop-name.all name) (at_name c.insert.new.self name) refl text
          (absent c.in-Some-2.name.now c.next.new.self sorted.0) (rw (needed, c.as_str-name.ensures.value) at seen) ∙
          (rw c.in-Some-2.ensures.steps at c.loop-name.invariant.left name);
    }

pub loop-name-preserved : goal.loop-name-preserved
unfolding IsStrictlySortedBy
loop-name-preserved c =
    let sorted = rw c.in-Some-2.ensures.steps at c.loop-name.invariant.sorted in
    let text : as_str (view c.in-Some-2.spec.now) ≡ None =
    sym c.as_str.ensures ∙ ap (option_map (λ s. s.now)) c.in_default-as_str.is in
    record {
      sorted = sorted.1;
      left = λ name. no_text (λ n spec. record {
        spec = spec;
        is_needed = is_needed_in (view c.args.asker.now)
            c.args.is_needed c.args.is_peer n;
        is_peer = c.args.is_peer;
        is_dev = c.args.is_dev;
        is_overridden = false;
      })
          _ name (string_bytes c.in-Some-2.name.now) (view c.in-Some-2.spec.now) (members_view c.next.new.self)
          (at_name c.loop-name.all name) refl text
          (absent c.in-Some-2.name.now c.next.new.self sorted.0) ∙
          (rw c.in-Some-2.ensures.steps at c.loop-name.invariant.left name);
    }

pub returns : goal.returns
returns c = λ name.
    let entries : c.into_iter-name-iterator.result ≡ c.in-Some.specs.now.entries = cc in
    let left = rw c.in-None.ensures.steps.0 at c.loop-name.invariant.left name in
    let members : option_and_then (get name) (get c.args.group.now (view c.args.asker.now)) ≡ get_member name
    (members_view c.into_iter-name-iterator.result) =
    rw entries (in_group _ _ name (search rules)) in
    rw (← members) at left
