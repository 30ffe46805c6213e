pub mod SearchLaws
pub mod WalkLaws
pub mod RoomLaws
pub mod LastLaws
pub mod TurnLaws
pub mod PairSearchLaws
pub mod ValueLaws
pub mod WalkPairLaws
