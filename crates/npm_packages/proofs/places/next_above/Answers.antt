-- What is above a folder is its folder above, or above that.
use Rattle.std.proofs.Common.{◌≡◌, [], arith, length, rules}
use Rattle.npm_packages.specs.Index.{IsFront, IsOver}
use Rattle.npm_packages.proofs.Above.{before_above, before_root, nearest_by}
use Rattle.npm_packages.proofs.Starts.{over_parent, over_root, parent_over, root_over}
use Rattle.npm_packages.proofs.places.next_above.Goals as goal

pub returns-then-is_empty : goal.returns-then-is_empty
returns-then-is_empty c = record {
  hit = tt;
  nearest = λ other some is.
      let none : length c.args.folder.now ≡ 0 = search (rules, c.is_empty.ensures, c.if-is_empty.true) in
      absurd (omega (arith, is.1, none));
}

pub nearest-requires-clause-above : goal.nearest-requires-clause-above
nearest-requires-clause-above c =
    let whole = rw c.in-Some.is at c.split_last.ensures in
    λ other up. c.requires.above other
    (before_above c.args.folder.now c.in-Some.parent.now _ other whole.0 up)

pub returns-in-Some : goal.returns-in-Some
returns-in-Some c =
    let whole = rw c.in-Some.is at c.split_last.ensures in
    nearest_by c.args.places.now c.args.name.now (IsFront c.in-Some.parent.now) (IsOver c.args.folder.now) c.nearest.result
    (λ other. over_parent c.args.folder.now c.in-Some.parent.now _ other whole.0)
    (λ other. parent_over c.args.folder.now c.in-Some.parent.now _ other whole.0 whole.1) c.nearest.ensures

pub nearest-requires-in-None-clause-above : goal.nearest-requires-in-None-clause-above
nearest-requires-in-None-clause-above c = λ other up. c.requires.above other
    (before_root c.args.folder.now other
    (λ empty. search (rules, empty, c.is_empty.ensures, c.if-is_empty.false)) up)

pub returns-in-None : goal.returns-in-None
returns-in-None c =
    let none = rw c.in-None.is at c.split_last.ensures in
    nearest_by c.args.places.now c.args.name.now (IsFront []) (IsOver c.args.folder.now) c.nearest-in-None.result
    (λ other. over_root c.args.folder.now other none
    (λ empty. search (rules, empty, c.is_empty.ensures, c.if-is_empty.false)))
    (λ other. root_over c.args.folder.now other none) c.nearest-in-None.ensures
