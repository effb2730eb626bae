pub mod PeriodCard
