-- the elements of a list, and those of a permutation of it
pub mod Elements
