-- What the contracts of command_lines say, in reading order.

pub mod Characters  -- characters by name
pub mod Shown  -- texts as a terminal gets them
pub mod WatchedValue  -- readers and writers that remember that a call failed
pub mod Inputs  -- JSON values that are read
-- ---- not part of any public contract: what private functions compute
pub mod Private
