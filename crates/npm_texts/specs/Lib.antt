-- How npm reads the texts of package files: all of it that is trusted, in reading order.

pub mod Texts  -- a text without its start or its end
pub mod WhiteSpace  -- white space at the ends of a text
pub mod InstalledVersions  -- what the version of an installed package is read as
pub mod SpecGrammar  -- what a spec is: a range, an alias, or what is in no registry
pub mod RegistrySpec  -- what a dependency asks a registry for
pub mod RangeText  -- what a spec asks for, by functions
pub mod SpecLaws  -- that they agree
pub mod Admission  -- which versions the text of a range admits
pub mod Truth  -- what counts as true
pub mod ObjectKeys  -- the names of an object's members
-- ---- not part of any public contract
pub mod Lemmas
