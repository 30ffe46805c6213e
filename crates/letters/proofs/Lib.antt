pub mod FollowLaws
pub mod LetterLaws
pub mod WritingLaws
