pub mod Digits
pub mod Reading
pub mod Standing
pub mod Fixed
pub mod Writing
pub mod Loops
