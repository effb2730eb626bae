pub mod ClosedPrices
