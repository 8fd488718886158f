pub mod Declaring
pub mod TypeNameLaws
pub mod DomainLaws
pub mod DomainParts
pub mod ProblemLaws
pub mod GoodParts
pub mod GrammarParts
