pub mod Places  -- the first exception that counts, by an index
pub mod Askers  -- packages that ask, which are looked up once for all of their dependencies
pub mod Keys  -- whose keys they are
pub mod Parts  -- the parts of an exception
pub mod Placed  -- an error without the place of its fault
