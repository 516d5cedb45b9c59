-- Lemmas that crates above cite. A reader need not trust them: the checker proves them.

pub mod Keys  -- names that are equal, and the names of a map
pub mod Objects  -- the members of an object
