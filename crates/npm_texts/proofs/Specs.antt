pub mod Splits
pub mod Archives
pub mod Locations
pub mod Targets
pub mod Aliases
pub mod SpecReading
pub mod RegistrySpecs
