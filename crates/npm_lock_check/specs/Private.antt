-- What private functions are said to compute.

pub mod Refusals  -- why values are refused
