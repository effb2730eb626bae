pub mod Grouping
pub mod Loops
