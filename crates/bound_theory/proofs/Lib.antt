pub mod BoundLaws
pub mod PointLaws
pub mod CopyLaws
pub mod Clashes
