pub mod Rest
pub mod Loop
