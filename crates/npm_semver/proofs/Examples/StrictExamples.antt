-- Worked examples: which version texts are strictly written, and where the others are not.
use Rattle.std.proofs.Common.{codes, refl}
use Rattle.npm_semver.specs.StrictVersionText.{IsStrictlyWritten, IsUnstrictAt, identifier, number}

-- SemVer 2.0.0, sections 9 and 10, and identifiers that are no numbers
strict-there : IsStrictlyWritten (codes "1.2.3")
    × IsStrictlyWritten (codes "0.10.0")
    × IsStrictlyWritten (codes "1.2.3-a.1+01")
    × IsStrictlyWritten (codes "1.0.0-0.3.7")
    × IsStrictlyWritten (codes "1.0.0-x-y-z.--")
    × IsStrictlyWritten (codes "1.0.0-01a.0")
    × IsStrictlyWritten (codes "1.0.0+a-01")
strict-there = (
  record { numbers = refl; identifiers = refl },
  record { numbers = refl; identifiers = refl },
  record { numbers = refl; identifiers = refl },
  record { numbers = refl; identifiers = refl },
  record { numbers = refl; identifiers = refl },
  record { numbers = refl; identifiers = refl },
  record { numbers = refl; identifiers = refl },
)

-- a mark, a blank, a zero in front of a number, no hyphen
numbers-there : IsUnstrictAt (codes "v1.2.3") 0
    × IsUnstrictAt (codes " 1.2.3") 0
    × IsUnstrictAt (codes "01.2.3") 0
    × IsUnstrictAt (codes "1.02.3") 2
    × IsUnstrictAt (codes "1.2.03-a") 4
    × IsUnstrictAt (codes "1.2.3a") 4
    × IsUnstrictAt (codes "1.2.3a-b") 4
numbers-there = (number refl, number refl, number refl, number refl, number refl, number refl, number refl)

-- a zero in front of an identifier that is a number
identifiers-there : IsUnstrictAt (codes "1.2.3-01") 6
    × IsUnstrictAt (codes "1.2.3-a.01+b") 8
    × IsUnstrictAt (codes "1.2.3-0.a.00") 10
identifiers-there = (identifier refl refl, identifier refl refl, identifier refl refl)
