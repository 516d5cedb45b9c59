pub mod Examples
mod Indexing
pub mod Keeping
pub mod KnownPlaces
mod Listing
mod Needing
pub mod Placing
mod PlacingItems
mod Years
