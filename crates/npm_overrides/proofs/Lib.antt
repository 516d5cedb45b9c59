pub mod Asked
pub mod Choosing
pub mod Examples
pub mod Reading
