pub mod BuildOrder
pub mod Print
-- ---- the readers of versions, and their faults
pub mod Versions
-- ---- those that the crates above may cite
pub mod Public
