-- What the contracts of this crate say: all of it that is trusted, in reading order, beside what `npm_packages` says of what a
-- package depends on.
-- `AreRules` is the claim of `Rules::read`, `Counts` that of `Rules::rule_for`, and `AreAsks` that of `asks_of`.

-- ---- the rules of a root
pub mod Rules  -- a rule, and the list of all
-- ---- one dependency
pub mod Ranges  -- whether the range of a rule and a spec meet
pub mod Choice  -- which rule counts
-- ---- a manifest
pub mod Bundled  -- which dependencies are in the archive of a package
pub mod Asks  -- what a manifest asks for
-- ---- not part of any public contract: what private functions compute
pub mod Private
