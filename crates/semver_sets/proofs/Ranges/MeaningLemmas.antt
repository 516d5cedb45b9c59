-- What a text means, from the one list of alternatives that it writes.
use native.Mathlib.Omega.{arith}
use Rattle.std.proofs.Common.{◌≢◌, List, [], subst, ℕ}
use Rattle.std.specs.List.{AllByRecursion}
use Rattle.semver_sets.specs.Comparator.{Comparator}
use Rattle.semver_sets.specs.Division.{IsWritten}
use Rattle.semver_sets.specs.Meaning.{Admit, GiveSet, IsRefused}
use Rattle.semver_texts.specs.Version.{VersionValue}
use Rattle.semver_sets.proofs.Ranges.AlternativeLemmas.{written-unique}

-- the alternative is not empty, and its comparators admit the version
abbrev pub AdmitSome : VersionValue → List Comparator → Type 0
AdmitSome v comparators = (comparators ≢ []) × Admit comparators v

-- all alternatives give no set
abbrev pub NoneGive : List (List Comparator) → Type 0
NoneGive alternatives = AllByRecursion (λ comparators. ¬ GiveSet comparators) alternatives

-- a text is refused where its alternatives give no set
pub refused-from_none : (text : List ℕ) (alternatives : List (List Comparator)) → IsWritten text alternatives
    → NoneGive alternatives → IsRefused text
refused-from_none text alternatives written none = grind arith

-- and nowhere else
pub none-from_refused : (text : List ℕ) (alternatives : List (List Comparator)) → IsWritten text alternatives
    → IsRefused text → NoneGive alternatives
none-from_refused text alternatives written refused =
    subst NoneGive (written-unique text refused.alternatives alternatives refused.written written) refused.none
