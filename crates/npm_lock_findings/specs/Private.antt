-- What private functions are said to compute.
pub mod Adding  -- what is added to a text safely
pub mod Said  -- the messages that pieces have so far
