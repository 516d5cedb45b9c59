use Rattle.semver_keys.proofs.TextReading.{none-utf8}
use Rattle.semver_keys.proofs.read.text.odd_text.Goals as goal

pub returns-in-Some-clause-none : goal.returns-in-Some-clause-none
returns-in-Some-clause-none c =
    none-utf8 _ c.in-Some.text.items _ (rw c.in-Some.is at c.in_ok-decoded.ensures.text) c.utf8_of.ensures.none
