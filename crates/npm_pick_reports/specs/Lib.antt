-- What the contracts of npm_pick_reports say, in reading order.

pub mod Loading  -- why a question has no reply if a document is not loaded, or a lock file has a fault
-- ---- dependencies that are outdated
pub mod Outdated  -- which dependencies are outdated
-- ---- a mirror
pub mod Asks  -- the dependencies of manifests and a lock file
pub mod Installed  -- the packages of a lock file that ask a registry
pub mod Mirror  -- the versions that a mirror keeps for them
-- ---- a reply
pub mod Reply  -- the reply to a question, and how the program ends
pub mod Failures  -- why there is no reply
-- ---- what programs about packages read
pub mod Manifest  -- which values are manifests
pub mod PackumentFile  -- where the document of a package is
-- ---- not part of any public contract: what private functions compute
pub mod Private
