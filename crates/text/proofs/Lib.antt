pub mod Digits
pub mod Reading
pub mod Lines
pub mod Fixed
pub mod Writing
