pub mod Rows
pub mod Listing
pub mod Scan
pub mod Offering
pub mod Reaching
pub mod Expanding
