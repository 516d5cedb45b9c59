-- A step up is back into the folder, or the path is another if what is left of it is from the folder above.
use Rattle.std.proofs.Common.{◌≡◌, ◌∙◌, Option, None, Some, ap, codes, option_map, refl, rules, sym}
use Rattle.std.specs.Path.{rsplit_once, slash}
use Rattle.npm_texts.specs.Texts.{rest_after}
use Rattle.npm_lock.specs.OtherFolders.{back}
use Rattle.npm_lock.proofs.OtherFolders.{ended, over_top, passed}
use Rattle.npm_lock.proofs.other_folder.is_read_as_another.Goals as goal

pub returns-in_default-parted : goal.returns-in_default-parted
returns-in_default-parted c =
    let up : rest_after (codes "../") c.up.left.now ≡ Some c.in-Some.rest.now =
    sym c.rest_after.ensures ∙ ap (option_map (λ rest. rest.now)) c.in-Some.is in
    let none : rsplit_once slash c.up.at.now ≡ None =
    sym c.parted.ensures ∙ ap (option_map (λ parts. (parts.0.now, parts.1.now))) c.in_default-parted.is in
    ((λ holds. c.up.invariant.same.0 (over_top c.up.at.now c.up.left.now c.in-Some.rest.now none up)), (λ is. refl))

pub returns-then-is_at_or_below : goal.returns-then-is_at_or_below
returns-then-is_at_or_below c =
    let up : rest_after (codes "../") c.up.left.now ≡ Some c.in-Some.rest.now =
    sym c.rest_after.ensures ∙ ap (option_map (λ rest. rest.now)) c.in-Some.is in
    let parts : rsplit_once slash c.up.at.now ≡ Some (c.in-Some-parted.above.now, c.in-Some-parted.name.now) =
    sym c.parted.ensures ∙ ap (option_map (λ parts. (parts.0.now, parts.1.now))) c.in-Some-parted.is in (
      (λ holds. c.up.invariant.same.0 (back c.up.at.now c.up.left.now c.in-Some-parted.above.now c.in-Some-parted.name.now
          c.in-Some.rest.now parts up (sym c.is_at_or_below.ensures ∙ c.if-is_at_or_below.true))),
      (λ is. refl),
    )

pub up-preserved : goal.up-preserved
up-preserved c =
    let up : rest_after (codes "../") c.up.left.now ≡ Some c.in-Some.rest.now =
    sym c.rest_after.ensures ∙ ap (option_map (λ rest. rest.now)) c.in-Some.is in
    let parts : rsplit_once slash c.up.at.now ≡ Some (c.in-Some-parted.above.now, c.in-Some-parted.name.now) =
    sym c.parted.ensures ∙ ap (option_map (λ parts. (parts.0.now, parts.1.now))) c.in-Some-parted.is in
    let same = passed c.up.at.now c.up.left.now c.in-Some-parted.above.now c.in-Some-parted.name.now c.in-Some.rest.now
    parts up (sym c.is_at_or_below.ensures ∙ c.if-is_at_or_below.false) in
    record {
      at_text = search rules;
      text = search rules;
      same = ((λ is. c.up.invariant.same.0 (same.0 is)), (λ is. same.1 (c.up.invariant.same.1 is)));
    }

pub returns : goal.returns
returns c =
    let down : rest_after (codes "../") c.up.left.now ≡ None =
    sym c.rest_after.ensures ∙ ap (option_map (λ rest. rest.now)) c.in_default.is in
    let same = ended c.up.at.now c.up.left.now c.is_over_top.result down c.is_over_top.ensures in
    ((λ holds. c.up.invariant.same.0 (same.0 holds)), (λ is. same.1 (c.up.invariant.same.1 is)))
