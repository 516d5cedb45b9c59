pub mod Spans  -- the versions that advisories are about
pub mod Covering  -- releases that spans contain
pub mod Halves  -- lists of advisories in halves
pub mod Unions  -- all versions that advisories are about
pub mod Offering  -- the versions that are offered
pub mod Auditing  -- the value of an installed package
pub mod Reading  -- why an advisory is not read
pub mod VersionTest  -- the test for version texts
pub mod OsvReading  -- the value of an element of OSV's `affected`
pub mod Index  -- what is added to the advisories by name
