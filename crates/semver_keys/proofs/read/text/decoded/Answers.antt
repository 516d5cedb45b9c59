use Rattle.std.proofs.Common.{◌≡◌, arith, length, ap}
use Rattle.semver_keys.proofs.TextReading.{shorter, whole-text}
use Rattle.semver_keys.proofs.read.text.decoded.Goals as goal

pub bytes-smaller : goal.bytes-smaller
bytes-smaller c = shorter _ _ _ c.in-Some.ensures.read

pub returns-else-is_empty-clause-none : goal.returns-else-is_empty-clause-none
returns-else-is_empty-clause-none c other e =
    let none : length c.bytes.rest.now ≡ 0 =
    ap length (whole-text c.bytes.text.items c.bytes.rest.now _ other c.bytes.invariant c.in_default.ensures.none e) in
    grind (arith, c.if-is_empty.ensures, none)
