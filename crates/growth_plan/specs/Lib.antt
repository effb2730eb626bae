pub mod Growing
pub mod Loop
