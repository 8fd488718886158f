pub mod AtLaws
pub mod EndLaws
pub mod JudgeLaws
