pub mod Scaled
pub mod Growing
pub mod Sums
pub mod Calls
pub mod Meaning
pub mod Worked
