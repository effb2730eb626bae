pub mod Lines
pub mod Grammar
pub mod Used
pub mod Good
pub mod RoundTrip
pub mod Refusals
