pub mod Outcomes
pub mod Decides
