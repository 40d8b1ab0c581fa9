pub mod ClassLemmas
pub mod RoomLemmas
