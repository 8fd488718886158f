pub mod OccurringLaws
pub mod StartingLaws
pub mod CopyingLaws
pub mod EncodingLaws
pub mod CountingLaws
