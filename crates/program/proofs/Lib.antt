pub mod Writing
pub mod Planning
pub mod Reading
