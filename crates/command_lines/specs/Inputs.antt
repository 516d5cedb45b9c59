-- The JSON value of an input, and why there is none.
use Rattle.std.specs.Prelude.{◌≡◌, ◌≢◌, ◌⊎◌, ℕ, List, [], Bool, true, false, IsSome, IsUtf8, Option, None, Some}
use Rattle.std.specs.Prelude.{nat_eq}
use Rattle.std.specs.List.{starts_with}
use Rattle.std.specs.Io.KnownBytes.{Consumes, IsAtEnd}
use Rattle.std.specs.declared.io.ErrorKind.TheVariants.{OutOfMemory}
use Rattle.serde_json.specs.Data.{Data}
use Rattle.serde_json.specs.Read.{read}
use Rattle.command_lines.specs.Characters.{byte_order_mark}
use Rattle.command_lines.specs.WatchedValue.{WatchedValue}
use Rattle.command_lines.specs.declared.input_error.InputError.{InputError}
use Rattle.command_lines.specs.declared.input_error.InputError.TheVariants.{ByteOrderMark, Memory, NoFile, NoJson}
use Rattle.command_lines.specs.declared.input_error.InputError.TheVariants.{NoUtf8, Open, Read}

-- the JSON text of this value, in UTF-8
abbrev pub IsTextOf : (bytes : List ℕ) → (value : Data) → Type 0
IsTextOf bytes value = IsUtf8 bytes × (read bytes ≡ Some value)

-- the bytes begin with a byte order mark, with which npm lets a file begin
abbrev pub has_mark : (bytes : List ℕ) → Bool
has_mark bytes = starts_with nat_eq bytes byte_order_mark

-- all that the reader had left was read, no call of it failed, and the bytes are such
pub record IsWholeInput {R : Type 0} (remaining : R → Option (List ℕ)) (old new : WatchedValue R)
    (IsSuch : List ℕ → Type 0)
    : Type 0 where
  pub bytes : List ℕ
  pub taken : Consumes (remaining old.inner) (remaining new.inner) bytes
  pub ended : IsAtEnd (remaining new.inner)
  pub unfailed : new.failure ≡ None
  pub such : IsSuch bytes

-- the JSON value that was read
abbrev pub IsInput : {R : Type 0} → (remaining : R → Option (List ℕ)) → (old new : WatchedValue R) → Data → Type 0
IsInput remaining old new value = IsWholeInput remaining old new (λ bytes. IsTextOf bytes value)

-- this text was read, and it is the JSON text of this value
abbrev pub IsInputText : {R : Type 0} → (remaining : R → Option (List ℕ)) → (old new : WatchedValue R)
    → (text : List ℕ) → Data → Type 0
IsInputText remaining old new text value =
    IsWholeInput remaining old new (λ bytes. IsTextOf bytes value × (bytes ≡ text))

-- Why no value was read: the input begins with a byte order mark, or is not in UTF-8, or is no JSON text, or a read
-- failed, or memory ran out. It ran out in a read whose error says so, or later: then all was read, and it is in UTF-8
-- and not empty.
abbrev pub IsUnread : {R : Type 0} → (remaining : R → Option (List ℕ)) → (old new : WatchedValue R) → InputError
    → Type 0
IsUnread remaining old new NoUtf8 =
    IsWholeInput remaining old new (λ bytes. (has_mark bytes ≡ false) × ¬ IsUtf8 bytes)
IsUnread remaining old new (NoJson line column) = IsWholeInput remaining old new
    (λ bytes. (has_mark bytes ≡ false) × IsUtf8 bytes × ((value : Data) → ¬ IsTextOf bytes value))
IsUnread remaining old new ByteOrderMark = IsWholeInput remaining old new (λ bytes. has_mark bytes ≡ true)
IsUnread remaining old new Read = IsSome new.failure × (new.failure ≢ Some OutOfMemory)
IsUnread remaining old new Memory = (new.failure ≡ Some OutOfMemory)
    ⊎ IsWholeInput remaining old new (λ bytes. IsUtf8 bytes × (bytes ≢ []))
IsUnread remaining old new NoFile = ⊥
IsUnread remaining old new Open = ⊥
