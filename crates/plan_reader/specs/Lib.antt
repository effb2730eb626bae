pub mod PlanReading
pub mod Loop
