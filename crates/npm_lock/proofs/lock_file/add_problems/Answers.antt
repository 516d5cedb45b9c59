-- The findings of a name come before those of the names that are left.
use Rattle.std.proofs.Common.{◌≡◌, ◌∙◌, ◌∷◌, [], ap, false, sym}
use Rattle.serde_json.specs.View.{view}
use Rattle.npm_lock.specs.Findings.{dependency}
use Rattle.npm_packages.specs.Overrides.{changed_by, overridden}
use Rattle.npm_packages.specs.Packages.{is_link}
use Rattle.npm_packages.specs.Lemmas.NameLists.{names_of}
use Rattle.npm_packages.specs.PackageValue.{asked_value, packages_data}
use Rattle.npm_lock.proofs.MoreFindings.{member_found}
use Rattle.npm_packages.specs.Lemmas.NameLists.{all_asked, are_names}
use Rattle.npm_lock.proofs.Reports.{adds_both, adds_none}
use Rattle.npm_lock.proofs.lock_file.add_problems.Goals as goal

pub loop-name-init : goal.loop-name-init
loop-name-init c =
    let entries : c.into_iter-name-iterator.result ≡ c.in_ok-all.all.entries = cc in
    record {
      asked = rw entries (all_asked (view c.args.asker.member.now) c.is_installed-is_installed.result c.in_ok-all.all
          c.iter-name-items.ensures.ordered c.in_ok-all.ensures);
      found = λ later new are adds. (later, are, adds);
    }

pub loop-name-preserved : goal.loop-name-preserved
loop-name-preserved c =
    let asked = rw c.in-Some.ensures.steps at c.loop-name.invariant.asked in
    let changed : asked_value c.overridden-changed.result
    ≡ overridden (packages_data c.args.lock) c.args.asker.folder.now c.in-Some.name.now.now
    (asked_value c.in-Some.asked.now) =
    c.overridden-changed.ensures
    ∙ ap (λ rule. changed_by rule c.args.asker.folder.now (asked_value c.in-Some.asked.now))
    (c.requires.rules c.in-Some.name.now.now) in
    record {
      asked = asked.1;
      found = λ later new are adds. c.loop-name.invariant.found (_ ∷ later) new
          (rw c.in-Some.ensures.steps (dependency _ _ asked.0 (rw changed at c.in_ok-judgement.ensures), are))
          (adds_both _ _ _ (_ ∷ []) later (rw changed at c.in_ok-add_judgement.ensures) adds);
    }

pub returns : goal.returns
returns c =
    let no_link : is_link (view c.args.asker.member.now) ≡ false = sym c.is_link.ensures ∙ c.if-is_link.false in
    let entries : c.into_iter-name-iterator.result ≡ c.in_ok-all.all.entries = cc in
    let all = c.loop-name.invariant.found [] c.loop-name.problems (rw c.in-None.ensures.steps.0 tt)
    (adds_none c.loop-name.problems) in
    member_found (packages_data c.args.lock) _ c.args.asker.folder.now (view c.args.asker.member.now)
    c.args.problems.now c.add_package.new.self c.loop-name.problems _ no_link c.in_ok-engine_problem.ensures
    c.in_ok-add_package.ensures (
      all.0,
      record {
        is_installed = c.is_installed-is_installed.result;
        installed = c.is_installed-is_installed.ensures;
        names = names_of c.in_ok-all.all.entries;
        are_names = are_names (view c.args.asker.member.now) c.is_installed-is_installed.result c.in_ok-all.all
            c.iter-name-items.ensures.ordered c.in_ok-all.ensures;
        each = rw entries at all.1;
      },
      all.2,
    )
