-- What the contracts say of what is decided. What is read and written is tested.
pub mod Resolved  -- what a resolver answers
