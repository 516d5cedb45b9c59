-- What the contracts of this crate say: all of it that is trusted, in reading order, beside what `npm_packages` says of
-- packages and what they depend on.
-- `IsChecked` of Findings is the claim of `check`, and `lock_fault` of that crate's Faults says what it refuses. All other words
-- are there for these two.

-- ---- one dependency
pub mod PatternGrammar  -- which patterns of workspaces are read, and what they match
pub mod Workspaces  -- which folders are workspaces of the root
pub mod Verdict  -- whether a version satisfies a spec
pub mod Outcomes  -- the problem of a dependency, and the one with the version of Node
-- ---- the whole file
pub mod Findings  -- all problems of a lock file in their order, and the counts
pub mod FoundWorkspaces  -- a workspace that was found on disk, beside the lock file
pub mod OtherFolders  -- keys that npm reads as another folder of the project
-- ---- lock files of version 1
pub mod Tarballs  -- what the address of a tarball says of the package in it
pub mod Identity  -- which package is in a folder: its name and its version
pub mod VersionOne  -- lock files of version 1, and the `packages` of version 3 that they become
-- ---- where packages come from
pub mod Addresses  -- what the address of a package says
pub mod Origins  -- what a lock file says of where a package comes from
pub mod Sources  -- what is suspicious in it, of all packages
-- ---- manifests beside a lock file
pub mod Mismatches  -- dependencies that differ between a manifest and the lock file
pub mod ManifestPlace  -- a manifest in the place of a package
-- ---- not part of any public contract: what private functions compute
pub mod Private
