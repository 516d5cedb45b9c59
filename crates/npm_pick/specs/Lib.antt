-- What the contracts of this crate say: all of it that is trusted, in reading order.
-- `IsPicked` of Pick is the claim of `pick`, and `IsKept` of Kept that of `keep`. All other words are there for them.
pub mod Packument  -- the document of a package
pub mod Times  -- when a version was published
pub mod Rank  -- which of the versions in a range is picked
pub mod Ranking  -- what they are ranked by, and the best of them, as values
pub mod Wanted  -- what a wanted text can be: a version, a range or a tag
pub mod Pick  -- which version is picked for it
pub mod Kept  -- which versions of a document a mirror keeps
-- ---- not part of any public contract: lemmas that crates above cite, and what private functions compute
pub mod Lemmas
pub mod Private
