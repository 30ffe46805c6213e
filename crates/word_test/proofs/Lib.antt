pub mod StepLaws
pub mod WayLaws
pub mod CountLaws
pub mod BackLaws
pub mod TriedLaws
pub mod TestLaws
pub mod PlacesLaws
