mod Allowing
mod Changing
pub mod Examples
mod Gathering
mod Keys
mod Locking
mod Marking
mod Naming
mod Needing
mod Reaching
mod Unmet
mod Wishing
