pub mod Search
pub mod Loop
