pub mod Check
pub mod Loop
