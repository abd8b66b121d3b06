pub mod CheckLaws
pub mod RoomLaws
