pub mod Parts
pub mod Ends
pub mod Forms
pub mod Dots
pub mod Turns
pub mod Matching
pub mod Lists
