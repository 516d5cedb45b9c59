use Rattle.std.proofs.Common.{take, flat_map}
use Rattle.std.specs.Fmt.{HasWritten, IsPlainFormatter}
use Rattle.semver_versions.specs.Lemmas.Print.{dotted_text}
use Rattle.semver_versions.proofs.version.display.write_dotted.Given as goal

abbrev pub invariant-identifiers : goal.invariant-identifiers
invariant-identifiers g l = IsPlainFormatter l.initial.f
    → HasWritten g.W.Write.write_str_gives l.initial.f (flat_map dotted_text (take l.identifier-index l.identifiers))
    l.f
