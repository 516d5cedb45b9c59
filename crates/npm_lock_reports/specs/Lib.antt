-- What the contracts of npm_lock_reports say, in reading order.

pub mod Unread  -- what was not looked at beside a lock file
pub mod Report  -- what of a report counts for the status
pub mod Lines  -- its lines: one for each thing that is found
-- ---- what counts of what is found
pub mod Read  -- a file of advisories with no advisory in it
pub mod Exceptions  -- which advisories are excepted for a package, and which packages are left
pub mod Excepted  -- what is excepted
pub mod Projects  -- which packages npm installs for the project itself
pub mod Omissions  -- which packages and dependencies are left out
pub mod Needed  -- which dependencies are needed although they are
pub mod LeftOut  -- what is found of the packages and dependencies that are not
pub mod Count  -- how many packages are
pub mod Counted  -- the hits that count
pub mod AdvisoryExceptions  -- an exception, and when it is over
pub mod Places  -- the first exception of a list that counts
pub mod Index  -- the same by names and ids
pub mod Reading  -- the exceptions of a text, and which text has none
pub mod Files  -- those of a file that is read
pub mod Days  -- the day of a time
-- ---- not part of any public contract: what private functions compute
pub mod Private
