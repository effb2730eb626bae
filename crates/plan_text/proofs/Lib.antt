pub mod Placing
pub mod OneText
pub mod Short
