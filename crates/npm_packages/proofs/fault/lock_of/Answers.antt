-- The fault of a member after members that have none is that of the lock file.
use Rattle.std.proofs.Common.{◌≡◌, ◌∙◌, ℕ, List, true, Some, ap, codes, string_bytes}
use Rattle.std.proofs.Common.{refl}
use Rattle.std.proofs.Common.{rules, sym}
use Rattle.std.specs.Result.{result_err}
use Rattle.serde_json.specs.Data.{Data, Members, object}
use Rattle.serde_json.specs.Find.{as_object, get}
use Rattle.serde_json.specs.View.{members_view, view}
use Rattle.npm_packages.specs.Faults as Faults
use Rattle.npm_packages.specs.declared.fault.Fault.{Fault}
use Rattle.npm_texts.specs.Lemmas.Objects.{is_object_of}
use Rattle.npm_packages.proofs.fault.lock_of.Goals as goal

refused : (lock packages : Data) (members : Members) (fault : Fault) → Faults.has_format lock ≡ true
    → get (codes "packages") lock ≡ Some packages → as_object packages ≡ Some members
    → Faults.members_fault (object members) members ≡ Some fault → Faults.lock_fault lock ≡ Some fault
refused lock packages members fault format at is held =
    let same : packages ≡ object members = is_object_of packages members is in rw (format, at, same) held

pub returns-in_err-check_member-clause-refused : goal.returns-in_err-check_member-clause-refused
returns-in_err-check_member-clause-refused c =
    let format : Faults.has_format (view c.args.lock.now) ≡ true = sym c.has_format.ensures ∙ c.if-not-has_format.false
    in
    let at : get (codes "packages") (view c.args.lock.now) ≡ Some (view c.in_ok-packages.packages.now) = search rules in
    let is : as_object (view c.in_ok-packages.packages.now) ≡ Some (members_view c.in_ok-members.members.now.entries) =
    search rules in
    let entries : c.into_iter-folder-iterator.result ≡ c.in_ok-members.members.now.entries = cc in
    let here : Faults.member_fault (object (members_view c.in_ok-members.members.now.entries))
    (string_bytes c.in-Some.folder.now) (view c.in-Some.member.now) ≡ Some c.in_err-check_member.field-0.0 =
    ap (λ (f : List ℕ). Faults.member_fault (object (members_view c.in_ok-members.members.now.entries)) f
    (view c.in-Some.member.now)) (sym c.as_str.ensures.value)
    ∙ sym c.check_member.ensures ∙ ap result_err c.in_err-check_member.was in
    let first = rw (entries, c.in-Some.ensures.steps) at c.loop-folder.invariant in
    let fault : Faults.lock_fault (view c.args.lock.now) ≡ Some c.in_err-check_member.field-0.0 = refused
    (view c.args.lock.now) (view c.in_ok-packages.packages.now)
    (members_view c.in_ok-members.members.now.entries) _ format at is (first ∙ (rw here refl)) in
    search (rules, fault)
