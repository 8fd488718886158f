pub mod LowWords
pub mod Forms
pub mod DomainForms
pub mod ProblemForms
pub mod Declared
pub mod TaskNames
pub mod ReadBack
