-- What the contracts of this crate say: all of it that is trusted, in reading order.
-- `IsAudit` of Audit is the claim of `audit`, and `file_fault` of Files says what it refuses. All other words are there for these two.

-- ---- a file of advisories
pub mod Files  -- which form it has, its advisories, and its fault
-- ---- one installed package
pub mod Hits  -- the advisories that hit a version
pub mod Offers  -- the versions that are offered in place of one that is hit
-- ---- all installed packages
pub mod Audit  -- those that are hit, in their order
-- ---- a lock file
pub mod LockFile  -- its installed packages
pub mod LockFaults  -- why there is no audit of it
-- ---- what advisories say
pub mod Severities  -- how severe an advisory is
pub mod VersionTest  -- a test for the texts of versions
pub mod ReadVersions  -- how the text of a version is read
pub mod OsvRanges  -- which versions the ranges of OSV's form have
pub mod Advisories  -- what an advisory says, and which versions it is about; npm's form
pub mod KnownIds  -- by which ids an advisory is known
pub mod Timestamps  -- times
pub mod OsvForm  -- OSV's form
-- ---- what is wrong with an advisory
pub mod Ids  -- what an error calls an advisory
pub mod Faults  -- which values are no advisories in npm's form
pub mod OsvPackages  -- which packages an OSV object is about
pub mod OsvFaults  -- which values are no advisories in OSV's form
-- ---- advisories that were read
pub mod Index  -- by the names of packages
-- ---- not part of any public contract: what private functions compute, and lemmas
pub mod Private
pub mod Lemmas
