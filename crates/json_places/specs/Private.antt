-- What private functions are said to compute.
pub mod Searches
pub mod FirstPlaces
