-- Lemmas that crates above cite. A reader need not trust them: the checker proves them.

pub mod Answers  -- what holds of a pick if no allocation failed
pub mod Readings  -- texts that are read as one version or as no range, and texts that are equal
pub mod Mapped  -- elements of lists that are mapped
pub mod Gathering  -- lists that are gathered item by item
pub mod Zips  -- lists whose items belong together
