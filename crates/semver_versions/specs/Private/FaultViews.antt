-- What a contract sees of the faults that private readers return.
use Rattle.std.specs.Prelude.{◌-◌, ◌≤◌, List, ℕ, codes, drop, length}
use Rattle.semver_texts.specs.Characters.{is_digit}
use Rattle.semver_texts.specs.NumberText.{number_of}
use Rattle.semver_texts.specs.Reading.{prefix_of}
use Rattle.semver_texts.specs.declared.parse.fault.Fault.{Fault}
use Rattle.semver_texts.specs.declared.parse.fault.Fault.TheVariants.{LeftOver, Missing, TooLarge, TooLong}
use Rattle.semver_versions.specs.Error.{Kind, context, max_length, other}
use Rattle.semver_versions.specs.Fault.{IsFault, too_large}

-- the number of bytes left from the fault on
abbrev pub left_of : Fault → ℕ
left_of (TooLong left) = left
left_of (Missing left) = left
left_of (TooLarge left) = left
left_of (LeftOver left) = left

-- the kind of error for a fault of this text
abbrev pub kind_in : List ℕ → Fault → Kind
kind_in text (TooLong left) = max_length
kind_in text (Missing left) = context (codes "version")
kind_in text (TooLarge left) = too_large (number_of (prefix_of is_digit (drop (length text - left) text)))
kind_in text (LeftOver left) = other

-- the fault is that of the text
pub record IsReadFault (text : List ℕ) (f : Fault) : Type 0 where
  pub within : left_of f ≤ length text
  pub fault : IsFault text (kind_in text f) (length text - left_of f)
