pub mod Completion
pub mod Steps
