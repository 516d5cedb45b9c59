pub mod Values  -- sets of values, and what rules values out
pub mod Paths  -- choices and the table of them
pub mod Missed  -- demands that are kept on the way to the culprits
pub mod Numbers  -- the numbers of names
pub mod Growth  -- ranges that are added
pub mod Changes  -- the candidate that is chosen first, and ranges that are there
