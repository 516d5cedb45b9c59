-- The lemmas that the crates above may cite, by subject. Each is proved in the file that it is taken from. They say
-- what
-- holds of versions and of texts, and not how a text is read.

-- ---- the order of versions: it is total, and means what `Order` says
pub use Rattle.semver_texts.specs.Lemmas.Order.{identifier_total, prerelease_total, triple_total, version_total}
pub use Rattle.semver_texts.specs.Lemmas.Order.{Equal-version, Less-version, version-Equal, version-Less}
pub use Rattle.semver_texts.specs.Lemmas.Order.{Greater-turned, identifier-IsAntisymmetric}
pub use Rattle.semver_texts.specs.Lemmas.Hash.{version_alike}
-- ---- versions between two of one triple
pub use Rattle.semver_texts.specs.Lemmas.Versions.Between.{prerelease-below, triple-back, triple-between}
-- ---- no version is below the least one of a triple, or below 0.0.0-0
pub use Rattle.semver_texts.specs.Lemmas.Versions.Least.{none-below_first, none-below_least}
-- ---- printed versions
pub use Rattle.semver_texts.specs.Lemmas.Versions.PrintReading.{IsTextVersion, print-begins, three-printed, unmarked}
pub use Rattle.semver_texts.specs.Lemmas.Versions.PrintReading.{extras_text, extras_text-no_digit, print-whole}
pub use Rattle.semver_texts.specs.Lemmas.Texts.DecimalReading.{decimal-begins, decimal-digits, decimal-identifier}
pub use Rattle.semver_texts.specs.Lemmas.Texts.DecimalReading.{decimal-value}
pub use Rattle.semver_texts.specs.Lemmas.Texts.LineText.{whole_text}
-- ---- characters: which classes have none in common
pub use Rattle.semver_texts.specs.Lemmas.Texts.Characters.{blank-cases, digit-begins_no_x, digit-no_blank}
pub use Rattle.semver_texts.specs.Lemmas.Texts.Characters.{digit-no_partial_mark, digit-no_x, x-no_digit}
-- ---- the first character, of a text and of two texts together
pub use Rattle.semver_texts.specs.Lemmas.Texts.Prefixes.{begins-append, begins-with, begins-with_no, no-append}
pub use Rattle.semver_texts.specs.Lemmas.Texts.Prefixes.{rest-short, with-begins, with_no-begins}
pub use Rattle.semver_texts.specs.Lemmas.Texts.Prefixes.{begins-some, prefix_of-no}
pub use Rattle.semver_texts.specs.Lemmas.Texts.CleanExtras.{clean-no_digit}
pub use Rattle.semver_texts.specs.Lemmas.Texts.ExtrasReading.{regroup}
-- ---- the longest prefix whose characters pass, and the rest
pub use Rattle.semver_texts.specs.Lemmas.Texts.Prefixes.{prefix_of-again, prefix_of-all, prefix_of-begins}
pub use Rattle.semver_texts.specs.Lemmas.Texts.Prefixes.{prefix_of-rest_of, rest_of-again, rest_of-all, rest_of-no}
pub use Rattle.semver_texts.specs.Lemmas.Texts.Prefixes.{rest_of-empty, rest_of-none}
pub use Rattle.semver_texts.specs.Lemmas.Texts.LongestReading.{rest_of-short}
pub use Rattle.semver_texts.specs.Lemmas.Texts.Places.{rest_of-each, rest_of-first}
-- ---- what is read: a number, a prerelease and a build, and a text after a mark and blanks
pub use Rattle.semver_texts.specs.Lemmas.Texts.NumberReading.{answer, number-again, number-digit, number-takes}
pub use Rattle.semver_texts.specs.Lemmas.Texts.NumberReading.{ok-value, refusal}
pub use Rattle.semver_texts.specs.Lemmas.Texts.ExtrasReading.{extras-again, extras-takes, no_extras}
pub use Rattle.semver_texts.specs.Lemmas.Texts.CleanExtras.{clean-ends_extras, clean_extras}
pub use Rattle.semver_texts.specs.Lemmas.Versions.ReadIdentifiers.{build-read, prerelease-read}
pub use Rattle.semver_texts.specs.Lemmas.Texts.IdentifierReading.{parts-dot, parts-other, parts-shape}
pub use Rattle.semver_texts.specs.Lemmas.Texts.ListReading.{parts-alone, parts-before}
pub use Rattle.semver_texts.specs.Lemmas.Texts.Marks.{TakesMarked, marked-follows, marked-taken}
