-- What private functions compute.
pub mod Wishing  -- what one manifest more asks for
pub mod Gathering  -- names that are asked for
pub mod Naming  -- names without a document that are added
pub mod Needing  -- names that versions need
pub mod Orders  -- the laws of the order of candidates
pub mod Reaching  -- names that are reached, one dependency after the other
pub mod Marking  -- the marks of a name, by four sets of names
