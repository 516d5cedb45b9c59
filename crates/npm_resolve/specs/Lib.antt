-- What the contracts of this crate say: all of it that is trusted, in reading order.
-- `AreDocumentsFor` of Documents is the claim of `documents_for`, and `IsAnswer` of Answers that of `resolved`.
-- `AreCandidates` of Candidates is the claim of `candidates_of`, `IsLock` of Lock that of `lock_of`, and `IsLockText` of LockText that of
-- `lock_text`.

pub mod Texts  -- what a contract sees of a text
pub mod Asks  -- what a manifest asks for
pub mod Preference  -- which of two candidates is preferred
pub mod Candidates  -- the versions of a document that can be chosen
pub mod Locked  -- which versions can be chosen if a lock file has one for the name
pub mod Meanings  -- which of them a version, a range or a tag allows
pub mod Rules  -- which rules of `overrides` count
pub mod Wishes  -- what manifests ask for
pub mod Documents  -- the documents that are needed
pub mod Optional  -- optional dependencies of the root
pub mod Instance  -- the problem that manifests and documents pose
pub mod Missing  -- names without a document that rule versions out
pub mod Explanations  -- what cannot be met together, and why
pub mod Answers  -- what an answer says
pub mod Installed  -- the packages in the `node_modules` of a root
pub mod Reached  -- which names are reached by dependencies of which groups
pub mod Marks  -- which packages are `dev`, `optional`, `devOptional` and `peer`
pub mod Members  -- the members of `packages`
pub mod Lock  -- the lock file
pub mod LockText  -- its text
-- ---- not part of any public contract: what private functions compute
pub mod Private
