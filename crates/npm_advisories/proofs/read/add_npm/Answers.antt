-- The advisories of one name more are read.
use Rattle.std.proofs.Common.{◌∙◌, ◌++◌, [], refl, rules, string_bytes, sym}
use Rattle.std.proofs.lemmas.List.{append_assoc}
use Rattle.std.specs.Option.{option_map_or}
use Rattle.serde_json.specs.Find.{as_array}
use Rattle.serde_json.specs.View.{members_view, view}
use Rattle.npm_advisories.specs.Advisories.{npm_list, npm_members}
use Rattle.npm_advisories.specs.Index.{has_name}
use Rattle.npm_advisories.specs.Lemmas.Adding.{adds-both}
use Rattle.npm_advisories.proofs.Reading.{error-first}
use Rattle.npm_advisories.proofs.read.add_npm.Goals as goal

pub loop-name-preserved : goal.loop-name-preserved
loop-name-preserved c =
    let here = option_map_or (npm_list (string_bytes c.in-Some-2.name.now)) (as_array (view c.in-Some-2.list.now)) [] in
    let rest = rw c.in-Some-2.ensures.steps at c.loop-name.invariant.rest in
    let fault = rw c.in-Some-2.ensures.steps at c.loop-name.invariant.fault in
    let sound = rw c.as_str.ensures.value at c.in_ok-read_member.ensures.sound in
    record {
      front = c.loop-name.invariant.front ++ here;
      adds = adds-both (has_name c.args.names.now) _ _ _ c.loop-name.invariant.front here c.loop-name.invariant.adds
          (rw c.as_str.ensures.value at c.in_ok-read_member.ensures.read);
      rest = rest ∙ sym (append_assoc c.loop-name.invariant.front here (npm_members (members_view c.next.new.self)));
      fault = fault ∙ (rw sound refl);
    }

pub returns-in_err-read_member-clause-refused : goal.returns-in_err-read_member-clause-refused
returns-in_err-read_member-clause-refused c =
    let fault = rw c.in-Some-2.ensures.steps at c.loop-name.invariant.fault in
    let refused = rw c.as_str.ensures.value at c.in_err-read_member.ensures.refused in
    let first = error-first _ _ _ _ refused fault in
    search (rules, first)
