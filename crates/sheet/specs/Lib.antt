pub mod Text
pub mod Lines
pub mod Sheet
pub mod Good
