pub mod Order
pub mod Hash
-- ---- the readers of texts
pub mod Texts
-- ---- versions
pub mod Versions
-- ---- those that the crates above may cite
pub mod Public
