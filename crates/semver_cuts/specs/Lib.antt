-- The definitions that the contracts of this crate use, in reading order. Each is for every type with a total order.

-- ---- Cuts
-- how two cuts compare
pub mod Cut
-- the laws that no other order has
pub mod CutLaws
-- ---- Spans of cuts
-- a span by its two ends, and which cuts lie in it
pub mod Ends
-- what cuts and spans feed to a hasher
pub mod Hash
-- the cuts in every span and in some span of a list
pub mod SpanLists
-- the ends of the intersection of the spans of a list
pub mod ChosenEnds
-- which of two ends is kept if two spans are intersected
pub mod KeptEnds
-- the part of one span outside another
pub mod SpanDifference
-- ---- Algebra of lists of spans
-- the intersection of two lists
pub mod CommonSpans
-- the part of one list outside another
pub mod Difference
-- whether two lists share a cut, and whether one contains all cuts of the other
pub mod Sharing
-- the spans that a list is joined to
pub mod Joined
-- the places in the list of the spans that it is joined to
pub mod Places
-- the number of spans that a list is joined to
pub mod Starts
-- ---- From value to value
-- the least value, and the next one
pub mod Steps
-- ---- Not part of any public contract
-- what private functions compute
pub mod Private
-- lemmas that ghost members and the proofs of other crates use
pub mod Lemmas
