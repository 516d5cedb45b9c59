-- What a contract sees of an end's extras, and of the identifiers that it borrows.
use Rattle.std.specs.Prelude.{List, [], ◌∷◌}
use Rattle.semver_cuts.specs.declared.cut.Cut.{Cut}
use Rattle.semver_cuts.specs.declared.cut.Cut.TheVariants.{After, Before, End, Start}
use Rattle.semver_texts.specs.Identifier.{values_of}
use Rattle.semver_texts.specs.IdentifierValue.{IdentifierValue, numeric}
use Rattle.semver_texts.specs.declared.end.borrowed.BorrowedIdentifiers.{BorrowedIdentifiers}
use Rattle.semver_texts.specs.declared.end.borrowed.BorrowedIdentifiers.TheVariants.{List as BorrowedList}
use Rattle.semver_texts.specs.declared.end.borrowed.BorrowedIdentifiers.TheVariants.{Zero as BorrowedZero}
use Rattle.semver_texts.specs.declared.end.Extras.{Extras}
use Rattle.semver_texts.specs.declared.end.Extras.TheVariants.{Lists, Nothing, Zero}
use Rattle.semver_texts.specs.Version.{HasSameTriple, VersionValue}

-- the prerelease
abbrev pub prerelease_seen : Extras → List IdentifierValue
prerelease_seen Nothing = []
prerelease_seen Zero = numeric 0 ∷ []
prerelease_seen (Lists lists) = values_of lists.value.pre_release.items

-- the build
abbrev pub build_seen : Extras → List IdentifierValue
build_seen Nothing = []
build_seen Zero = []
build_seen (Lists lists) = values_of lists.value.build.items

-- the borrowed identifiers
abbrev pub borrowed_seen : BorrowedIdentifiers → List IdentifierValue
borrowed_seen (BorrowedList identifiers) = values_of identifiers.now
borrowed_seen BorrowedZero = numeric 0 ∷ []

-- the cut is just before or just after a version with the same triple
abbrev pub IsAtTriple : Cut VersionValue → VersionValue → Type 0
IsAtTriple (Before v) w = HasSameTriple v w
IsAtTriple (After v) w = HasSameTriple v w
IsAtTriple Start w = ⊥
IsAtTriple End w = ⊥
