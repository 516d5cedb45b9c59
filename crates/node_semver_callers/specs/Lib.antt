-- The definitions that the contracts of this crate use beside those of `node_semver`.

-- what an advisory of several ranges hits and spares
pub mod Advisory
-- which versions suit two range texts
pub mod Both
-- why a call has no result
pub mod Failure
-- which versions of a list a range text admits
pub mod Hits
-- which texts of a list are versions that a range admits
pub mod Mirrored
-- the newest version that texts write and a range admits
pub mod Newest
-- errors with their line and column
pub mod Places
