pub mod Outcomes
pub mod TextOrder
pub mod Grouping
pub mod Mirrors
pub mod Elsewhere
pub mod Replies
pub mod Examples
