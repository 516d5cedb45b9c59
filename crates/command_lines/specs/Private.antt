-- What private functions are said to compute.

pub mod ShownBytes  -- the output for one byte
