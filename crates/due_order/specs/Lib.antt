pub mod DueOrder
