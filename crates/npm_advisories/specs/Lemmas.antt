-- Lemmas of what is read and of the spans that are read. A reader need not trust them: the checker proves them.

pub mod Versions  -- versions: their order, and those that were read
pub mod Spans  -- spans, and the versions that they contain
pub mod Items  -- lists of JSON values, one value after another
pub mod Adding  -- what an index has at each name
pub mod Unwanted  -- advisories about packages that are not wanted
pub mod VersionTests  -- the test for version texts
