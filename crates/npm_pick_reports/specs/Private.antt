-- What private functions are said to compute.

pub mod Requests  -- the texts of the requests
