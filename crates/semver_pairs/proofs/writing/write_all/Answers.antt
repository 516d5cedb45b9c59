use Rattle.std.proofs.Common.{◌+◌, arith, refl}
use Rattle.std.proofs.KnownBytes.{Appends-kept, Appends-nil}
use Rattle.semver_pairs.proofs.ByteLemmas.{appends_more, rest_some, rest_within}
use Rattle.semver_pairs.proofs.writing.write_all.Goals as goal

pub writes-init : goal.writes-init
writes-init g c = (omega arith, Appends-nil _, c.requires)

pub writes-preserved : goal.writes-preserved
writes-preserved g c = (
  rest_within c.args.text.now c.writes.at c.in-Ok.n c.writes-test.true c.in-Ok.ensures.at_most,
  appends_more _ _ _ _ _ _ c.writes.invariant.1 c.in-Ok.ensures.bytes,
  λ failed. c.in-Ok.n-test.1 (c.in-Ok.ensures.mark.0 failed).0,
)

pub returns-in-Ok-eq0-clause-part : goal.returns-in-Ok-eq0-clause-part
returns-in-Ok-eq0-clause-part g c =
    (c.writes.at + c.in-Ok-eq0.field-0, appends_more _ _ _ _ _ _ c.writes.invariant.1 c.in-Ok-eq0.ensures.bytes)

pub returns-in-Ok-eq0-clause-write : goal.returns-in-Ok-eq0-clause-write
returns-in-Ok-eq0-clause-write g c = (
  λ is. c.in-Ok-eq0.ensures.mark.1
      (c.in-Ok-eq0.field-0-test, rest_some c.args.text.now c.writes.at c.writes-test.true),
  λ failed. refl,
)

pub returns-in-Err-clause-part : goal.returns-in-Err-clause-part
returns-in-Err-clause-part g c =
    (c.writes.at, Appends-kept _ _ _ _ c.writes.invariant.1 c.in-Err.ensures.bytes)
