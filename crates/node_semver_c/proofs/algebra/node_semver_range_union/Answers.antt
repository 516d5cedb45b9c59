use Rattle.node_semver_c.specs.Answers.{IsUnion}
use Rattle.node_semver_c.proofs.Found.{made_of}
use Rattle.node_semver_c.proofs.algebra.node_semver_range_union.Goals as goal

pub returns-in-Ok : goal.returns-in-Ok
returns-in-Ok c =
    rw (← c.get.ensures, ← c.get-2.ensures) (made_of (IsUnion c.get.result.now c.get-2.result.now) c.in-Ok.union
    c.keep_range.result c.keep_range.new.held.value record {
      sets = c.in-Ok.ensures.sets;
      cuts = c.in-Ok.ensures.cuts;
      admitted = c.in-Ok.ensures.admitted;
      text = c.in-Ok.ensures.text;
      holds = c.in-Ok.ensures.holds;
    } c.keep_range.ensures)
