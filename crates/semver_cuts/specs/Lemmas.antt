-- Lemmas that ghost members and the proofs of other crates use. A reader need not trust them: the checker proves them.

-- the order of cuts is total
pub mod CutOrder
-- less and at most, and the tests of them
pub mod Ends
-- the chosen ends of a list of spans, and the intersection of the spans
pub mod ChosenEnds
-- facts of some element and of each element of a list
pub mod Lists
-- cuts in some span of a list
pub mod InSome
-- the intersection of two spans, and when one lies in the other
pub mod TwoSpans
-- the part of one span outside another
pub mod SpanDifference
-- the intersection of two lists of spans
pub mod CommonSpans
-- the part of one list of spans outside another
pub mod Difference
-- when two lists share a cut
pub mod Sharing
-- spans that are apart
pub mod Apart
-- spans that are merged as they stand
pub mod Joined
-- spans with their places
pub mod Placed
-- equal cuts, and equal spans, feed a hasher the same
pub mod Hash
