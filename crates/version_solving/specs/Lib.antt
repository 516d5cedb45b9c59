-- What the contracts of this crate say: all of it that is trusted, in reading order.
-- `IsTheSelection` and `NoneFits` of Solving are the claims of `solve`, and `IsProof` of Reasons is that of `reasons`.

pub mod Solving  -- demands, candidates, selections, and which one of them is the answer
pub mod Documents  -- the problem that documents and the demands of a root pose
pub mod Outcomes  -- what an outcome says
pub mod Culprits  -- demands that cannot be met together
pub mod Fitting  -- which candidate outside the range of a demand would fit
pub mod Wishes  -- what demands have in common, and which candidates and selections have it
pub mod Reasons  -- lines each of which is true of the documents, or follows from lines above it
-- ---- problems whose names and ranges are texts
pub mod Naming  -- which demands and packages stand for asks
-- ---- not part of any public contract: what private functions compute
pub mod Private
