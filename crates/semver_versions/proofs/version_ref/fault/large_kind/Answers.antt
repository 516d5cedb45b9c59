use native.Mathlib.Omega.{arith}
use Rattle.std.proofs.lemmas.Str.{IsUtf8-from_ascii}
use Rattle.semver_texts.specs.Lemmas.Texts.Characters.{ascii-digits}
use Rattle.semver_texts.specs.Lemmas.Texts.Prefixes.{prefix_of-all, prefix_of-begins}
use Rattle.semver_versions.specs.Lemmas.Versions.LargeNumbers.{large-err, large-ok}
use Rattle.semver_versions.proofs.version_ref.fault.large_kind.Goals as goal

pub from_utf8_unchecked-digits-requires : goal.from_utf8_unchecked-digits-requires
from_utf8_unchecked-digits-requires c = grind (arith, IsUtf8-from_ascii, ascii-digits, prefix_of-all)

pub returns-in-Ok : goal.returns-in-Ok
returns-in-Ok c = grind (arith, large-ok, prefix_of-all)

pub returns-in-Err : goal.returns-in-Err
returns-in-Err c = grind (arith, large-err, prefix_of-all, prefix_of-begins)
