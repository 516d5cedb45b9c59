-- What private functions compute.

-- a buffer that a failed call has added to
pub mod Grown
-- the parts of a set where prereleases are admitted
pub mod Opened
-- the interval of a span
pub mod SpanIntervals
-- what readers of keys return
pub mod Reading
