-- What the contracts of this crate say: all of it that is trusted, in reading order.
-- `AreLockEdges` of Edges is the claim of `edges_of`, `AreDependents` of Dependents that of `Dependents::of_lock`, and
-- `lock_fault` of Faults says which values both refuse.

-- ---- the packages of a lock file
pub mod Folders  -- folders of packages
pub mod Packages  -- packages, links, and where a name is found
pub mod Asked  -- what a package depends on
pub mod Overrides  -- which dependencies `overrides` change
-- ---- the whole file
pub mod Faults  -- which values are no lock file
pub mod Edges  -- the dependencies of all packages, and the package that is installed for each
pub mod Dependents  -- the texts by which packages depend on an installed package
pub mod Aliases  -- the packages that dependencies ask for by another name
pub mod LinkedFolders  -- the folders of packages that links name
-- ---- the values of a caller that goes over the packages
pub mod PackageValue  -- packages and their dependencies as values
pub mod Names  -- what a map of names has
pub mod Rules  -- what a map of rules of `overrides` has
pub mod Lookups  -- the folders in which names are looked up
pub mod LastParts  -- the last part of a path
pub mod Index  -- what the index of the folders has
-- ---- not part of any public contract: what private functions compute, and lemmas that crates above cite
pub mod Private
pub mod Lemmas
