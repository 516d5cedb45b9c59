-- What the laws of this crate say, beside the definitions of the crates below.

pub mod Alike  -- options and documents for which candidates and a pick are compared
pub mod Firsts  -- the first candidate that a meaning admits
pub mod Single  -- a single wish, and what is answered for it
pub mod Selected  -- what is asked of a selection is answered
pub mod Met  -- each dependency is met by the package that is installed under its name
pub mod Ordinary  -- dependencies of which the laws speak
pub mod Whole  -- the lock file of a selection has no problem
