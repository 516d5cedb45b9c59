pub mod Between
pub mod Least
pub mod Prereleases
pub mod PrintReading
pub mod ReadIdentifiers
