-- What the contracts of npm_resolve_reports say, in reading order.

pub mod Locks  -- the lock file of what is selected
pub mod Systems  -- for which systems a package is
pub mod Reply  -- what is replied, and how the program ends
