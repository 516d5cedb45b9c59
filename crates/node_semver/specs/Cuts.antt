-- What contracts say about cuts, spans and lists of spans: defined in `semver_cuts`, and handed on.
pub use Rattle.semver_cuts.specs.declared.cut.Cut.{Cut}
pub use Rattle.semver_cuts.specs.declared.cut.Cut.TheVariants.{Start, Before, After, End}
pub use Rattle.semver_cuts.specs.Ends.{Ends}
pub use Rattle.semver_cuts.specs.SpanLists.{IsInSome}
pub use Rattle.semver_cuts.specs.CommonSpans.{common_spans}
pub use Rattle.semver_cuts.specs.Difference.{AreDifference}
pub use Rattle.semver_cuts.specs.Sharing.{CoversAll, ShareCut}
pub use Rattle.semver_cuts.specs.Steps.{IsLeast, IsNext}
