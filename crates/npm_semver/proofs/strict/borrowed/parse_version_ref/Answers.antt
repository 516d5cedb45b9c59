use Rattle.std.proofs.Common.{◌-◌, length, List, subst, ℕ}
use Rattle.npm_semver.specs.StrictVersionText.{IsUnstrictAt, loose, unstrict}
use Rattle.npm_semver.proofs.strict.borrowed.parse_version_ref.Goals as goal

pub returns-in-Err-clause-only : goal.returns-in-Err-clause-only
returns-in-Err-clause-only c = λ v h. c.in-Err.ensures.only v h.version

pub returns-in-Err-clause-fault : goal.returns-in-Err-clause-fault
returns-in-Err-clause-fault c = loose _ _ c.in-Err.ensures.fault

pub returns-in-None-clause-only : goal.returns-in-None-clause-only
returns-in-None-clause-only c = λ v h. c.in-Ok.ensures.only v h.version

pub returns-in-Some-clause-fault : goal.returns-in-Some-clause-fault
returns-in-Some-clause-fault c =
    rw (c.left_over.ensures.kind, c.left_over.ensures.offset) (unstrict _ _ c.in-Ok.ensures.found
    (subst (λ (l : List ℕ). IsUnstrictAt l (length l - c.in-Some.left)) c.as_bytes.ensures.value
    c.in-Some.ensures.some))
