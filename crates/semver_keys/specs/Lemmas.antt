-- Lemmas. A reader need not trust them: the checker proves them.

-- the first byte that differs
pub mod FirstBytes
-- keys of numbers, identifiers, versions and cuts have the order of these values
pub mod NumberOrder
pub mod IdentifierOrder
pub mod VersionOrder
pub mod CutOrder
