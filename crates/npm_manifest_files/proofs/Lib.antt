pub mod Examples
pub mod FileFolders
pub mod PathParts
pub mod ReadManifests
pub mod TextStarts
