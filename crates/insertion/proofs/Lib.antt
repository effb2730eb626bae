pub mod Steps
pub mod Inserting
pub mod Building
