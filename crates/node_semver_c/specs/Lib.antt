-- What the contracts of the exports cite, beside the definitions of `node_semver`.

-- ---- arguments from C
pub mod Handles
-- ---- results of a call
pub mod Status
pub mod Answers
pub mod Greatest
pub mod Sets
pub mod Compared
pub mod Bumped
pub mod Pair
pub mod Printed
pub mod Keys
-- ---- not part of any public contract: what private functions compute
pub mod Private
