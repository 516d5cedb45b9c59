-- What private functions compute: not part of any public contract.

pub mod Folders  -- the index of places
pub mod Meeting  -- which versions are inside a range
pub mod Reaching  -- the places that are reached
