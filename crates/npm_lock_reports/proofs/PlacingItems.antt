-- Where a fault is does not change which fault it is, and a file is refused as its text is.
use Rattle.std.proofs.Common.{◌≡◌, ℕ, List, Option, Result, Some, IsUtf8}
use Rattle.toml.specs.Data.{Members}
use Rattle.toml.specs.Parse.{parse_document}
use Rattle.command_lines.specs.Inputs.{IsWholeInput}
use Rattle.command_lines.specs.WatchedValue.{WatchedValue}
use Rattle.npm_lock_reports.specs.declared.advisory_exceptions.error.ExceptionsError.{ExceptionsError}
use Rattle.npm_lock_reports.specs.declared.advisory_exceptions.error.ExceptionsError.TheVariants as Errors
use Rattle.npm_lock_reports.specs.Files.{IsFileRefused}
use Rattle.npm_lock_reports.specs.Private.Placed.{without_place}
use Rattle.npm_lock_reports.specs.Reading.{FaultValue, IsRefused, IsRefusedAs, exceptions_of}

without : {V : Type 0} (read : Result V FaultValue) (error : ExceptionsError) → IsRefusedAs read error
    → IsRefusedAs read (without_place error)
without read (Errors.Faulty fault _ _) is = is
without read Errors.Memory is = is
without read (Errors.Input error) is = absurd is
without read Errors.NoUtf8 is = absurd is
without read (Errors.NoToml line column said) is = absurd is
without read Errors.Clock is = absurd is

-- with its place, in this text
with_place : (text : List ℕ) (members : Members) (error : ExceptionsError) → parse_document text ≡ Some members
    → IsRefusedAs (exceptions_of members) (without_place error) → IsRefused text error
with_place text values (Errors.Faulty fault _ _) parsed is = (values, parsed, is)
with_place text values Errors.Memory parsed is = tt
with_place text values (Errors.Input error) parsed is = absurd is
with_place text values Errors.NoUtf8 parsed is = absurd is
with_place text values (Errors.NoToml line column said) parsed is = absurd is
with_place text values Errors.Clock parsed is = absurd is

pub refused_text : (text : List ℕ) (members : Members) (error placed : ExceptionsError) → parse_document text ≡ Some members
    → without_place placed ≡ without_place error → IsRefusedAs (exceptions_of members) error → IsRefused text placed
refused_text text members error placed parsed same is =
    with_place text members placed parsed (rw same (without (exceptions_of members) error is))

-- all was read, and it is a text that is refused
pub refused_file : {R : Type 0} (remaining : R → Option (List ℕ)) (old new : WatchedValue R) (text : List ℕ) (error : ExceptionsError)
    → ((IsSuch : List ℕ → Type 0) → IsSuch text → IsWholeInput remaining old new IsSuch) → IsUtf8 text → IsRefused text error
    → IsFileRefused remaining old new error
refused_file remaining old new text (Errors.NoToml line column said) whole utf8 is =
    whole (λ bytes. IsUtf8 bytes × IsRefused bytes (Errors.NoToml line column said)) (utf8, is)
refused_file remaining old new text (Errors.Faulty fault line column) whole utf8 is =
    whole (λ bytes. IsUtf8 bytes × IsRefused bytes (Errors.Faulty fault line column)) (utf8, is)
refused_file remaining old new text Errors.Memory whole utf8 is =
    whole (λ bytes. IsUtf8 bytes × IsRefused bytes Errors.Memory) (utf8, is)
refused_file remaining old new text (Errors.Input error) whole utf8 is = absurd is
refused_file remaining old new text Errors.NoUtf8 whole utf8 is = absurd is
refused_file remaining old new text Errors.Clock whole utf8 is = absurd is
