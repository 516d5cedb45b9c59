-- What the contract of `checked_tree` says: what `npm_trees` says of trees, and this.
pub mod Told  -- which trees have the dependencies of their manifests
pub mod Checked  -- an answer whose tree is one
