-- Each group comes before what the earlier groups have.
use Rattle.std.proofs.Common.{◌≡◌, ◌∙◌, None, ap, refl}
use Rattle.std.specs.Option.{option_or}
use Rattle.npm_packages.specs.Names.{at_name}
use Rattle.npm_packages.proofs.Groups.{or_none}
use Rattle.npm_packages.proofs.asked.asked_of.Goals as goal
use Rattle.npm_packages.proofs.asked.asked_of.Goals.{then-not-is_installed+in_ok-add_group-4, else-not-is_installed}

pub returns : goal.returns
returns c = λ name.
    let none : at_name c.new-all.result name ≡ None = rw c.new-all.ensures.empty refl in
    let peer = c.in_ok-add_group.ensures name ∙ ap (option_or _) none ∙ or_none _ in
    let plain = c.in_ok-add_group-2.ensures name ∙ ap (option_or _) peer in
    let optional = c.in_ok-add_group-3.ensures name ∙ ap (option_or _) plain in
    elim c.if-not-is_installed.branch [
      | then-not-is_installed+in_ok-add_group-4 w ↦
          rw (w.all-is, w.if-not-is_installed.true) (w.in_ok-add_group-4.ensures name ∙ ap (option_or _) optional)
      | else-not-is_installed w ↦ rw (w.all-is, w.if-not-is_installed.false) optional
    ]
