-- The fault of a package after packages that have none is that of all.
use Rattle.std.proofs.Common.{◌≡◌, ◌∙◌, Some, ap, bytes_eq, codes, rules, string_bytes, sym}
use Rattle.serde_json.specs.View.{members_view, view}
use Rattle.npm_packages.specs.Folders.{is_folder, place_in}
use Rattle.npm_packages.specs.declared.fault.Fault.TheVariants as Faults
use Rattle.npm_lock.specs.VersionOne.{packages_below, packages_fault, packages_named}
use Rattle.npm_lock.proofs.PackageLists.{entry_found, entry_passed, fault_found, fault_passed, folder_found, inside_found}
use Rattle.npm_texts.specs.Lemmas.Objects.{is_object}
use Rattle.npm_lock.proofs.PackageLists.{none_named}
use Rattle.npm_lock.proofs.version_one_fault.+faults.Goals as goal

pub check_below-loop-key-preserved-in-Continue-1 :
    goal.check_below-loop-key-preserved-in-Continue-1
check_below-loop-key-preserved-in-Continue-1 t c = λ folder right sized.
    let is = ap (λ s. bytes_eq s (codes "dependencies")) (sym c.as_str.ensures.value) ∙ sym c.if-eq.ensures in
    let first = rw c.in-Some.ensures.steps at c.loop-key.invariant folder right sized in
    first ∙ fault_passed folder (string_bytes c.in-Some.key.now) (view c.in-Some.value.now)
    (members_view c.next.new.self) is (c.in_ok-check_named.ensures folder right sized)

pub check_below-returns-in_err-check_named : goal.check_below-returns-in_err-check_named
check_below-returns-in_err-check_named t c = λ folder right sized.
    let is = ap (λ s. bytes_eq s (codes "dependencies")) (sym c.as_str.ensures.value) ∙ sym c.if-eq.ensures in
    let entries : c.into_iter-key-iterator.result ≡ c.in-Object.members.entries = cc in
    let first = rw (entries, c.in-Some.ensures.steps) at c.loop-key.invariant folder right sized in
    let whole = is_object c.args.entry.now c.in-Object.members c.in-Object.is in
    let fault : packages_fault (packages_below folder (view c.args.entry.now)) ≡ Some c.in_err-check_named.field-0.0 =
    rw whole (first ∙ fault_found folder (string_bytes c.in-Some.key.now) (view c.in-Some.value.now)
    (members_view c.next.new.self) _ is (c.in_err-check_named.ensures folder right sized)) in
    search (rules, fault)

pub check_below-loop-key-preserved : goal.check_below-loop-key-preserved
check_below-loop-key-preserved t c = λ folder right sized.
    let is = ap (λ s. bytes_eq s (codes "dependencies")) (sym c.as_str.ensures.value) ∙ sym c.if-eq.ensures in
    let first = rw c.in-Some.ensures.steps at c.loop-key.invariant folder right sized in
    first ∙ ap packages_fault (none_named folder (string_bytes c.in-Some.key.now) (view c.in-Some.value.now)
    (members_view c.next.new.self) is)

pub check_below-returns-in-None : goal.check_below-returns-in-None
check_below-returns-in-None t c = λ folder right sized.
    let entries : c.into_iter-key-iterator.result ≡ c.in-Object.members.entries = cc in
    let last = rw (entries, c.in-None.ensures.steps.0) at c.loop-key.invariant folder right sized in
    let whole = is_object c.args.entry.now c.in-Object.members c.in-Object.is in
    rw whole (sym last)

pub check_named-returns-in_default-place_size : goal.check_named-returns-in_default-place_size
check_named-returns-in_default-place_size t c = λ folder right sized.
    let entries : c.into_iter-name-iterator.result ≡ c.in-Object.entries.entries = cc in
    let first = rw (entries, c.in-Some.ensures.steps) at c.loop-name.invariant folder right sized in
    let whole = is_object c.args.dependencies.now c.in-Object.entries c.in-Object.is in
    let wrong = rw (c.in_default-place_size.is, c.as_str.ensures.value) at c.place_size.ensures folder right sized in
    let fault : packages_fault (packages_named folder (view c.args.dependencies.now)) ≡ Some Faults.Folder =
    rw whole (first ∙ folder_found folder (string_bytes c.in-Some.name.now) (view c.in-Some.entry.now)
    (members_view c.next.new.self) wrong) in
    search (rules, fault)

pub check_named-returns-in_err-check_entry : goal.check_named-returns-in_err-check_entry
check_named-returns-in_err-check_entry t c = λ folder right sized.
    let entries : c.into_iter-name-iterator.result ≡ c.in-Object.entries.entries = cc in
    let first = rw (entries, c.in-Some.ensures.steps) at c.loop-name.invariant folder right sized in
    let whole = is_object c.args.dependencies.now c.in-Object.entries c.in-Object.is in
    let place = rw (c.in-Some-place_size.is, c.as_str.ensures.value) at c.place_size.ensures folder right sized in
    let fault : packages_fault (packages_named folder (view c.args.dependencies.now))
    ≡ Some c.in_err-check_entry.field-0.0 =
    rw whole (first ∙ entry_found folder _ (view c.in-Some.entry.now) (members_view c.next.new.self) place.0 _
    c.in_err-check_entry.ensures) in
    search (rules, fault)

pub check_named-loop-name-preserved : goal.check_named-loop-name-preserved
check_named-loop-name-preserved t c = λ folder right sized.
    let first = rw c.in-Some.ensures.steps at c.loop-name.invariant folder right sized in
    let place = rw (c.in-Some-place_size.is, c.as_str.ensures.value) at c.place_size.ensures folder right sized in
    first ∙ entry_passed folder _ (view c.in-Some.entry.now) (members_view c.next.new.self) place.0
    c.in_ok-check_entry.ensures (c.in_ok-check_below.ensures (place_in folder _) place.0 (sym place.1))

pub check_named-returns-in_err-check_below : goal.check_named-returns-in_err-check_below
check_named-returns-in_err-check_below t c = λ folder right sized.
    let entries : c.into_iter-name-iterator.result ≡ c.in-Object.entries.entries = cc in
    let first = rw (entries, c.in-Some.ensures.steps) at c.loop-name.invariant folder right sized in
    let whole = is_object c.args.dependencies.now c.in-Object.entries c.in-Object.is in
    let place = rw (c.in-Some-place_size.is, c.as_str.ensures.value) at c.place_size.ensures folder right sized in
    let fault : packages_fault (packages_named folder (view c.args.dependencies.now))
    ≡ Some c.in_err-check_below.field-0.0 =
    rw whole (first ∙ inside_found folder _ (view c.in-Some.entry.now) (members_view c.next.new.self) place.0 _
    c.in_ok-check_entry.ensures (c.in_err-check_below.ensures (place_in folder _) place.0 (sym place.1))) in
    search (rules, fault)

pub check_named-returns-in-None : goal.check_named-returns-in-None
check_named-returns-in-None t c = λ folder right sized.
    let entries : c.into_iter-name-iterator.result ≡ c.in-Object.entries.entries = cc in
    let last = rw (entries, c.in-None.ensures.steps.0) at c.loop-name.invariant folder right sized in
    let whole = is_object c.args.dependencies.now c.in-Object.entries c.in-Object.is in
    rw whole (sym last)
