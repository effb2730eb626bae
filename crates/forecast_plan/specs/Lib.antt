pub mod Forecast
pub mod Calls
pub mod Loop
