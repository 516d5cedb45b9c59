use Rattle.std.proofs.Common.{◌≡◌, take}
use Rattle.semver_texts.proofs.identifier.common_start.common_length.Given as goal

-- the bytes so far are equal
abbrev pub invariant-alike : goal.invariant-alike
invariant-alike l = take l.i l.a ≡ take l.i l.b
