pub mod FitParts
pub mod ReportOf
