-- What the contracts of npm_lock_check say, in reading order.

pub mod Kinds  -- sets of kinds of problems
pub mod Report  -- the report of a lock file
pub mod Written  -- the output for one lock file
pub mod Check  -- the check of one lock file, and why one is not checked
pub mod Files  -- a run over several lock files
-- ---- not part of any public contract: what private functions compute
pub mod Private
