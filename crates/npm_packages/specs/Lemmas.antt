-- Lemmas that crates above cite. A reader need not trust them: the checker proves them.

pub mod FolderMaps  -- maps of folders
pub mod NameLists  -- the names that a package depends on are the keys of a map
pub mod PassedErrors  -- an error that is passed on
