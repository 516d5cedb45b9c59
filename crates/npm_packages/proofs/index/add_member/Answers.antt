-- What is found at the key is added, where the key is the place of its end.
use Rattle.std.proofs.Common.{◌∙◌, sym}
use Rattle.std.proofs.lemmas.Result.{on_ok_weaker}
use Rattle.npm_packages.specs.PackageValue.{packages_data}
use Rattle.npm_packages.proofs.Fronts.{plain_end, same_place}
use Rattle.npm_packages.proofs.Indexing.{is_more, none_in, none_there}
use Rattle.npm_packages.proofs.index.add_member.Goals as goal

pub returns-in-Some-inside : goal.returns-in-Some-inside
returns-in-Some-inside c =
    let here = rw c.in-Some-inside.is at c.inside.ensures in
    on_ok_weaker c.add.result
    (λ added. is_more (packages_data c.args.lock) c.args.placed.folder.now c.end_of-name.result.now _ c.args.places.now
    c.add.new.places added c.end_of-name.ensures here (record {
      plain = plain_end c.args.placed.folder.now c.end_of-name.result.now c.end_of-name.ensures;
      no_modules = sym c.is_modules.ensures ∙ c.if-not-is_modules.true;
      found = rw here at (sym (rw c.in-Some.is at c.found_at.ensures));
    })) c.add.ensures

pub returns-in_default-inside : goal.returns-in_default-inside
returns-in_default-inside c =
    let here = rw c.in-Some-inside.is at c.inside.ensures in
    none_in (packages_data c.args.lock) c.args.placed.folder.now c.args.places.now c.end_of-name.result.now
    c.end_of-name.ensures (λ folder found is_found is.
    let same = same_place folder c.in-Some-inside.folder.now c.end_of-name.result.now (sym is ∙ here) in
    cc (is_found.no_modules, same, c.is_modules.ensures, c.if-not-is_modules.false))

pub returns-in_default-inside-2 : goal.returns-in_default-inside-2
returns-in_default-inside-2 c =
    none_in (packages_data c.args.lock) c.args.placed.folder.now c.args.places.now c.end_of-name.result.now
    c.end_of-name.ensures (λ folder found is_found is. (rw c.in_default-inside.is at c.inside.ensures) folder is)

pub returns-in_default : goal.returns-in_default
returns-in_default c =
    none_there (packages_data c.args.lock) c.args.placed.folder.now c.args.places.now
    (sym (rw c.in_default.is at c.found_at.ensures))
