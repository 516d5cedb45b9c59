-- A folder is inserted, or none.
use Rattle.std.proofs.Common.{inl, inr}
use Rattle.npm_packages.specs.Edges.{edge_value}
use Rattle.npm_packages.specs.Lemmas.FolderMaps.{more_that, names_that, one_folder}
use Rattle.npm_pick_reports.specs.Installed.{IsFoundElsewhere}
use Rattle.npm_pick_reports.proofs.mirror.installed.add_elsewhere.Goals as goal

pub returns-in_default : goal.returns-in_default
returns-in_default c = λ folder. (
  (λ has. inr has),
  (λ either. elim either [
    | inl leads ↦ cc (rw c.in_default.is at (c.found_elsewhere.ensures folder).1 leads)
    | inr has ↦ has
  ]),
)

pub returns : goal.returns
returns c = λ folder.
    let named = names_that c.found_elsewhere.result c.in-Some.folder folder
    (IsFoundElsewhere (edge_value c.args.edge) folder) c.in-Some.is (c.found_elsewhere.ensures folder) in
    more_that named (one_folder c.args.folders.now c.insert.new.self tt c.in-Some.folder.now folder
    c.in_ok-insert.ensures.updates)
