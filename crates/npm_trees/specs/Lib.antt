-- What the contracts of this crate say: all of it that is trusted, in reading order. `IsTree` of Trees is the claim of `check`: all other
-- words are there for it.
pub mod Places  -- places, and what they see
pub mod Whole  -- which trees are whole
pub mod Meeting  -- which place meets a dependency
pub mod Reaching  -- which places dependencies lead to
pub mod LeftOut  -- which dependencies are left out
pub mod Trees  -- what a tree of packages is
-- ---- not part of any public contract: what private functions compute
pub mod Private
