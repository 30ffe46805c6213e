pub mod MeetLaws
pub mod PermitLaws
pub mod MatterLists
