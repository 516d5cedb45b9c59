pub mod Asking  -- what is asked for by one name
pub mod Steps  -- what is known of a dependency after a look at one place
