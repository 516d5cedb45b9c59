-- Each name is the first that is left of both groups.
use Rattle.std.proofs.Common.{◌≡◌, ◌∙◌, ◌∷◌, ◌++◌, [], ℕ, List, ap, append-nil, arith}
use Rattle.std.proofs.Common.{inl, inr}
use Rattle.std.proofs.Common.{map, option_and_then, option_map, refl, rules, sym}
use Rattle.std.specs.List.{filter_map}
use Rattle.std.specs.Option.{option_to_list}
use Rattle.serde_json.specs.Find.{as_str, get, get_member}
use Rattle.serde_json.specs.View.{view}
use Rattle.npm_lock.specs.Mismatches.{group_text, mismatch_of, mismatch_value}
use Rattle.npm_lock.specs.Private.GroupSpecs.{left_of}
use Rattle.npm_lock.proofs.GroupWalk.{group_names, in_members, grown, is_there, next_names, none_left, was_there}
use Rattle.npm_lock.proofs.manifest.add_group.Goals as goal

pub names-init : goal.names-init
names-init c =
    let at = λ (name : List ℕ). in_members (get (group_text c.args.group) (view c.args.sides.manifest.now))
    c.group_in.result _ _
    (left_of c.of_group-specs.result) name c.group_in.ensures c.unwrap_or.ensures c.new-none.ensures.empty
    c.of_group-specs.ensures.left in
    let at_locked = λ (name : List ℕ). in_members (get (group_text c.args.group) (view c.args.sides.entry.now))
    c.group_in-2.result _ _
    (left_of c.of_group-locked.result) name c.group_in-2.ensures c.unwrap_or-2.ensures c.new-none.ensures.empty
    c.of_group-locked.ensures.left in
    record {
      sorted = c.of_group-specs.ensures.sorted;
      sorted_locked = c.of_group-locked.ensures.sorted;
      at = λ name some. (at name, at_locked name);
      found = λ later are. (later, group_names _ _ _ _ _ later at at_locked are, refl);
    }

pub mismatch_of-requires-clause-spec : goal.mismatch_of-requires-clause-spec
mismatch_of-requires-clause-spec c =
    let first = rw c.in-Some.is at c.first_name.ensures in
    let at = (c.names.invariant.at c.in-Some.name.now (is_there _ _ _ first)).0 in
    let taken : option_map (λ text. text.now) c.and_then-spec.result
    ≡ option_and_then as_str (get_member c.in-Some.name.now (left_of c.names.specs)) = search rules in
    taken ∙ sym (ap (option_and_then as_str) at)

pub mismatch_of-requires-clause-locked : goal.mismatch_of-requires-clause-locked
mismatch_of-requires-clause-locked c =
    let first = rw c.in-Some.is at c.first_name.ensures in
    let at = (c.names.invariant.at c.in-Some.name.now (is_there _ _ _ first)).1 in
    let taken : option_map (λ text. text.now) c.and_then-locked.result
    ≡ option_and_then as_str (get_member c.in-Some.name.now (left_of c.names.locked)) = search rules in
    taken ∙ sym (ap (option_and_then as_str) at)

pub names-smaller : goal.names-smaller
names-smaller c =
    let first = rw c.in-Some.is at c.first_name.ensures in
    elim (is_there _ _ _ first) [
      | inl a ↦ omega (arith, c.take.ensures.left.fewer a, c.take-in-Some.ensures.left.no_more)
      | inr b ↦ omega (arith, c.take.ensures.left.no_more, c.take-in-Some.ensures.left.fewer b)
    ]

pub names-preserved : goal.names-preserved
names-preserved c =
    let first = rw c.in-Some.is at c.first_name.ensures in
    let taken = c.take.ensures.left in
    let taken_locked = c.take-in-Some.ensures.left in
    let added : map mismatch_value c.add_found.new.list.items ≡ map mismatch_value c.names.list.items
    ++ option_to_list (mismatch_of c.args.sides.folder.now (view c.args.sides.manifest.now)
    (view c.args.sides.entry.now)
    c.args.group c.in-Some.name.now) = rw c.in_ok-mismatch_of.ensures at c.in_ok-add_found.ensures in
    record {
      sorted = taken.sorted;
      sorted_locked = taken_locked.sorted;
      at = λ n some.
          let was = was_there _ _ _ _ _ taken taken_locked n some in
          let at = c.names.invariant.at n was.0 in
          (at.0 ∙ sym was.1, at.1 ∙ sym was.2);
      found = λ later are.
          let all = c.names.invariant.found (c.in-Some.name.now ∷ later)
          (next_names _ _ _ _ _ taken taken_locked later (is_there _ _ _ first) are) in
          (all.0, all.1, all.2 ∙ grown _ _ _ _ added);
    }

pub returns : goal.returns
returns c =
    let none = rw c.in_default.is at c.first_name.ensures in
    let all = c.names.invariant.found [] (rw (none.0, none.1) none_left) in (
      filter_map (mismatch_of c.args.sides.folder.now (view c.args.sides.manifest.now) (view c.args.sides.entry.now)
          c.args.group) all.0,
      record { names = all.0; are_names = all.1; each = refl },
      sym (rw append-nil at all.2),
    )
