-- What private functions compute.
pub mod Comparing
pub mod Picking
pub mod Keeping
