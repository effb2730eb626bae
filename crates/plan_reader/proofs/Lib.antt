pub mod Ends
pub mod Fronts
pub mod Holds
pub mod Ending
pub mod Reading
pub mod Calls
pub mod Meaning
