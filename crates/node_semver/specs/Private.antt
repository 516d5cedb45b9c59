-- What private functions compute.

-- the least version
pub mod LeastViews
pub mod CandidateViews
