pub mod Folders  -- the parts of a path, some of which may lead up
pub mod Groups  -- what a group of dependencies adds to a map of names
pub mod Index  -- what a call adds to the index of the folders
pub mod Linked  -- what a map of folders has
pub mod OverrideKeys  -- the keys of `overrides`
pub mod Search  -- the common start of two paths, and the nearest package
pub mod SoundLock  -- what a lock file without a fault is kept with
