-- What the contracts of npm_manifest_files say, in reading order.

pub mod Paths  -- parts of a path
pub mod ManifestFile  -- where the manifest of a workspace is, and why it was not read
pub mod WorkspaceName  -- the name of a workspace
pub mod Linked  -- the manifests of workspaces, and the workspaces on disk
