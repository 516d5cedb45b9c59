pub mod Auditing
pub mod CheckedFiles
pub mod Examples
pub mod FoundOnDisk
pub mod LinkedManifests
pub mod Stopping
