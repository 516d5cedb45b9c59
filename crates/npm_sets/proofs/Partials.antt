pub mod ComponentReading
pub mod ListedZeros
pub mod StrictExtras
pub mod DottedReading
pub mod PartialReading
pub mod LargeNumbers
pub mod LargeReading
pub mod LimitReading
