-- What a reader at the start of a text says of the whole text.
use Rattle.std.proofs.Math.Seq.{drop-append_seam}
use Rattle.std.proofs.Common.{◌≡◌, ◌-◌, ◌<◌, ◌≤◌, ℕ, List, [], ◌∷◌, length, Ok, refl, ◌∙◌}
use Rattle.std.proofs.Common.{arith, take, drop}
use Rattle.std.proofs.lemmas.List.{take_rest}
use Rattle.std.specs.Borrow.{Bor}
use Rattle.std.specs.Prelude.{IfErr, Result}
use Rattle.semver_texts.specs.Lemmas.Texts.Prefixes.{begins-append}
use Rattle.semver_texts.specs.declared.TheConstants.{MAX_LENGTH}
use Rattle.semver_texts.specs.Characters.{BeginsWith, is_digit}
use Rattle.semver_texts.specs.Reading.{read_extras}
use Rattle.semver_versions.specs.Private.VersionReading.{read_marked_triple, read_unmarked, read_version}
use Rattle.semver_versions.specs.Private.VersionReading.{version_of}
use Rattle.semver_texts.specs.Reading.{seen}
use Rattle.semver_versions.specs.Private.VersionReading.{IsBegun}
use Rattle.semver_texts.specs.declared.parse.fault.Fault.TheVariants.{LeftOver, TooLarge}
use Rattle.semver_texts.specs.Version.{VersionValue, release}
use Rattle.semver_texts.specs.VersionText.{IsVersionText}
use Rattle.semver_texts.specs.declared.parse.fault.Fault.{Fault}
use Rattle.semver_texts.specs.Lemmas.Texts.ExtrasReading.{no_extras}
use Rattle.semver_versions.specs.Lemmas.Versions.OneReading.{read-version}
use Rattle.semver_versions.specs.Error.{Kind}
use Rattle.semver_versions.specs.Fault.{IsFault, too_large}
use Rattle.semver_versions.specs.Private.FaultViews.{IsReadFault}
use Rattle.semver_versions.specs.Lemmas.Versions.FaultReading.{fault-takes, left-takes}

-- the fault of a text whose triple was not read
pub triple-fault : (text : List ℕ) (r : Result ((ℕ × ℕ × ℕ) × Bor (List ℕ)) Fault) → length text ≤ MAX_LENGTH
    → seen r ≡ read_marked_triple text → IfErr r (IsReadFault text)
unfolding read_version read_unmarked
triple-fault text r short read = grind (arith, fault-takes)

-- the version of the triple and of what follows it
begun-version : (text rest : List ℕ) (triple : ℕ × ℕ × ℕ) → IsBegun text triple rest
    → read_version text ≡ Ok (version_of triple (read_extras rest).0, (read_extras rest).1)
unfolding read_version read_unmarked
begun-version text rest triple begun = rw begun.read refl

-- nothing is left
pub begun-found : (text rest left : List ℕ) (triple : ℕ × ℕ × ℕ) (v : VersionValue) → IsBegun text triple rest
    → v ≡ version_of triple (read_extras rest).0 → left ≡ (read_extras rest).1 → length left < 1
    → IsVersionText text v
begun-found text rest [] triple v begun value end none =
    read-version text v begun.short (begun-version text rest triple begun ∙ rw (value, ← end) refl)
begun-found text rest (b ∷ left) triple v begun value end none = absurd (omega arith)

-- three numbers are the whole text
pub begun-release : (text rest : List ℕ) (triple : ℕ × ℕ × ℕ) → IsBegun text triple rest → length rest < 1
    → IsVersionText text (release triple.0 triple.1 triple.2)
begun-release text [] triple begun none =
    begun-found text [] [] triple (release triple.0 triple.1 triple.2) begun (rw no_extras refl) (rw no_extras refl)
    none
begun-release text (b ∷ rest) triple begun none = absurd (omega arith)

-- something is left
pub begun-left : (text rest left : List ℕ) (triple : ℕ × ℕ × ℕ) → IsBegun text triple rest
    → left ≡ (read_extras rest).1 → 1 ≤ length left → IsReadFault text (LeftOver (length left))
begun-left text rest [] triple begun end some = absurd (omega arith)
begun-left text rest (b ∷ left) triple begun end some = grind (arith, left-takes, begun-version text rest triple begun)

-- the fault of a number that is too large is where that number begins
large-here : (text : List ℕ) (kind : Kind) (offset n : ℕ) → IsFault text kind offset → kind ≡ too_large n
    → BeginsWith is_digit (drop offset text)
large-here text kind offset n h5 same = grind (arith, begins-append, drop-append_seam)

pub large-refused : (text : List ℕ) (left : ℕ) → IsReadFault text (TooLarge left)
    → BeginsWith is_digit (take (length text - (length text - left)) (drop (length text - left) text))
large-refused text left told = rw (take_rest text (length text - left)) (large-here text _ _ _ told.fault refl)
