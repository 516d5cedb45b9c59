pub mod Examples
pub mod Globs
pub mod MoreFindings
pub mod PlainRanges  -- specs that are plain ranges
pub mod PatternLists
pub mod StarPatterns
pub mod ProblemTexts
pub mod Reports
pub mod Converting
pub mod LastParts
pub mod PackageLists
pub mod MoreSources
pub mod Slashes
pub mod GroupWalk
pub mod ManifestWrites
pub mod OtherFolders
