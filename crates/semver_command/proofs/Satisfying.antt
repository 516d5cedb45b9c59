-- Versions that are chosen by facts that hold of the same versions.
use Rattle.std.proofs.Common.{◌↔◌, ℕ, List}
use Rattle.node_semver.specs.Versions.{VersionValue}
use Rattle.semver_command.specs.Chosen.{AreChosen, IsLeftOut, chosen, left_out, no_utf8, none, unlike, unread}
use Rattle.semver_command.specs.declared.asked.Options.{Options}

left_same : (options : Options) (One Other : VersionValue → Type 0) (text : List ℕ)
    → ((v : VersionValue) → One v ↔ Other v) → IsLeftOut options One text → IsLeftOut options Other text
left_same options One Other text same (no_utf8 not) = no_utf8 not
left_same options One Other text same (unread never) = unread never
left_same options One Other text same (unlike v read not) = unlike v read (λ other. not ((same v).1 other))

-- the same are chosen by facts that hold of the same versions
pub chosen_same : (options : Options) (One Other : VersionValue → Type 0) (texts : List (List ℕ))
    (versions : List VersionValue) → ((v : VersionValue) → One v ↔ Other v)
    → AreChosen options One texts versions → AreChosen options Other texts versions
chosen_same options One Other texts versions same none = none
chosen_same options One Other texts versions same (chosen text v others rest is later) =
    chosen text v others rest (record { utf8 = is.utf8; read = is.read; such = (same v).0 is.such })
    (chosen_same options One Other others rest same later)
chosen_same options One Other texts versions same (left_out text others rest left later) =
    left_out text others rest (left_same options One Other text same left)
    (chosen_same options One Other others rest same later)
