pub mod AsBefore
pub mod CallLaws
pub mod CaptureLaws
pub mod ScanLaws
