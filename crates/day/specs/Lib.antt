pub mod Day
pub mod Flights
pub mod Plan
pub mod Valid
pub mod Instance
pub mod Chains
pub mod Checked
