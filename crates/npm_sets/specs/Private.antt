-- What private functions compute.
pub mod ReadViews
pub mod RefusedViews
pub mod WordViews
