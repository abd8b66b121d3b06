pub mod DayExport
pub mod Export
pub mod TallyExport
