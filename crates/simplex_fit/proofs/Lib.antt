pub mod SignLaws
pub mod SplitLaws
pub mod TableLaws
pub mod ReadingLaws
pub mod CopyLaws
