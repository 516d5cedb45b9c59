-- The definitions that the contracts of this program use. These files are what a reader has to trust.
pub mod LockFile  -- the packages of the lock file that is read
pub mod Status  -- the exit status
