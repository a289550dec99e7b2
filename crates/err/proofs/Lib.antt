pub mod ReportLaws
pub mod WellFormedLaws
