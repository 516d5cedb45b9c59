-- What contracts say about errors and faults of version texts: defined in `semver_versions`, and handed on.
pub use Rattle.semver_versions.specs.Error.{Kind, context, incomplete, max_int, max_length, no_valid_ranges, other}
pub use Rattle.semver_versions.specs.Error.{out_of_memory, parse_int}
pub use Rattle.semver_versions.specs.Error.{kind_of, Refusal, refusal_of, IsRefusalAt, IsOutOfMemory, IsReadAs}
pub use Rattle.semver_versions.specs.Fault.{IsFault, IsFaultOf}
pub use Rattle.semver_versions.specs.VersionFault.{IsVersionFault, fault_kind_of, fault_text}
pub use Rattle.semver_versions.specs.ErrorParts.{error_kind_of, span_len, span_offset}
pub use Rattle.semver_versions.specs.ErrorText.{kind_text}
pub use Rattle.semver_versions.specs.ErrorEquality.{error_value}
pub use Rattle.semver_texts.specs.Characters.{newline}
pub use Rattle.semver_versions.specs.ErrorLocation.{is_newline, lines_before, column_at}
pub use Rattle.semver_versions.specs.Json.{IsVersionAnswer, PassesOn, json_error_text}
pub use Rattle.semver_versions.specs.declared.json.JsonError.TheVariants.{NotAString}
