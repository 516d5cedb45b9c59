-- The definitions that the contracts of this crate use, in reading order. These files are what a reader has to trust.

-- Reading and writing.
pub mod GaugeValue  -- a gauge: what it holds, and whether a call through it has failed
-- Input and output.
pub mod Lines  -- the lines of the input
pub mod Pairs  -- the pairs of lines, and which of them were wholly read
pub mod Answer  -- the output for a range line and a version line
pub mod Output  -- the output for all that is read, and its beginnings
-- How the program ends.
pub mod Ending  -- what standard error says
-- ---- not part of any public contract: what private functions compute
pub mod Private
