pub mod NextCost
pub mod Quick
pub mod Calls
pub mod Loop
