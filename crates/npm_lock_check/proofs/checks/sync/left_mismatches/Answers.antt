-- The mismatches of the root, and then those of linked folders.
use Rattle.std.proofs.Common.{◌≡◌, ◌∙◌, [], Some, if◌then◌else◌, map, refl, sym, true}
use Rattle.serde_json.specs.View.{view}
use Rattle.npm_manifest_files.specs.Linked.{linked_value}
use Rattle.npm_lock_check.specs.Report.{has_packages, manifests_of}
use Rattle.npm_lock_check.proofs.LinkedManifests.{left_of}
use Rattle.npm_lock_check.proofs.checks.sync.left_mismatches.Goals as goal

pub returns-then-is_ignored-clause-found : goal.returns-then-is_ignored-clause-found
returns-then-is_ignored-clause-found c =
    let has : has_packages (view c.args.lock.now) ≡ true = sym c.has_packages.ensures ∙ c.if-not-has_packages.false in
    let linked = c.in_default.ensures.found in
    let none : c.new-then-is_ignored.result.items
    ≡ (if c.args.is_ignored then [] else c.add_linked.new.all.items) =
    rw c.if-is_ignored.true c.new-then-is_ignored.ensures.items in
    left_of (view c.args.lock.now)
    (manifests_of (Some (view c.args.manifest.now)) (map linked_value c.args.linked.now)) c.args.is_ignored
    c.add_linked.new.all.items c.new-then-is_ignored.result.items has
    (c.in_ok-all.all.items, linked.0, c.in_ok-all.ensures.found, linked.1, linked.2) none

pub returns-else-is_ignored-clause-found : goal.returns-else-is_ignored-clause-found
returns-else-is_ignored-clause-found c =
    let has : has_packages (view c.args.lock.now) ≡ true = sym c.has_packages.ensures ∙ c.if-not-has_packages.false in
    let linked = c.in_default.ensures.found in
    let all : c.add_linked.new.all.items ≡ (if c.args.is_ignored then [] else c.add_linked.new.all.items) =
    rw c.if-is_ignored.false refl in
    left_of (view c.args.lock.now)
    (manifests_of (Some (view c.args.manifest.now)) (map linked_value c.args.linked.now)) c.args.is_ignored
    c.add_linked.new.all.items c.add_linked.new.all.items has
    (c.in_ok-all.all.items, linked.0, c.in_ok-all.ensures.found, linked.1, linked.2) all
