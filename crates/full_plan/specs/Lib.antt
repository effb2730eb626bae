pub mod FullPlan
pub mod Inserted
