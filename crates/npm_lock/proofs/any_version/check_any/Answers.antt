-- A file of another version has the fault that `check` tells. What one of version 1 is converted to has none, as it has itself.
use Rattle.std.proofs.Common.{◌≡◌, ◌∙◌, None, Some, ap, false, option_map, rules, sym, true}
use Rattle.serde_json.specs.View.{view}
use Rattle.npm_packages.specs.Faults.{lock_fault}
use Rattle.npm_packages.specs.declared.fault.Fault.{Fault}
use Rattle.npm_lock.specs.VersionOne.{any_fault, file_of, is_version_one, packages_of, version_one_fault}
use Rattle.npm_lock.proofs.Converting.{file_sound}
use Rattle.npm_lock.proofs.any_version.check_any.Goals as goal

pub returns-then-not-is_version_one-clause-refused :
    goal.returns-then-not-is_version_one-clause-refused
returns-then-not-is_version_one-clause-refused c =
    let other : is_version_one (view c.args.lock.now) ≡ false =
    sym c.is_version_one.ensures ∙ c.if-not-is_version_one.true in
    rw other c.check.ensures.refused

pub returns-clause-refused : goal.returns-clause-refused
returns-clause-refused c =
    let manifest = option_map (λ m. view m.now) c.args.manifest in
    let one : is_version_one (view c.args.lock.now) ≡ true = sym c.is_version_one.ensures ∙ c.if-not-is_version_one.false in
    let sound : version_one_fault (view c.args.lock.now) manifest ≡ None = search rules in
    let made : view c.in_ok-file.file ≡ file_of (packages_of (view c.args.lock.now) manifest) = search rules in
    let none : lock_fault (view c.in_ok-file.file) ≡ None =
    ap lock_fault made ∙ file_sound (view c.args.lock.now) manifest sound in
    let any : any_fault (view c.args.lock.now) manifest ≡ None = rw one sound in
    λ fault. (
      (λ told. let no : None ≡ Some fault = sym none ∙ (c.check-2.ensures.refused fault).0 told in cc no),
      (λ told. let no : None ≡ Some fault = sym any ∙ told in cc no),
    )
