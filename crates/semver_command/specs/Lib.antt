-- The definitions that the contracts of this crate use, in reading order. These files are what a reader has to trust.

-- What is read.
pub mod Input  -- the texts that may be versions: words, and lines of standard input
pub mod Written  -- the version that a text is read as
pub mod Ranges  -- which versions satisfy a range
pub mod Chosen  -- the versions of texts that are chosen
-- What is decided.
pub mod Kept  -- which versions are written, and in which order
pub mod Answer  -- those of a request
pub mod Increment  -- the version after an increment
pub mod Status  -- the exit status
-- ---- not part of any public contract: what private functions compute
pub mod Private
