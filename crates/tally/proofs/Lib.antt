pub mod HistoryLaws
pub mod RoomLaws
