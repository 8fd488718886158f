pub mod Keywords
pub mod Effects
pub mod Functions
pub mod Actions
pub mod Domains
pub mod Grammar
pub mod FunctionGroups
pub mod KeyValues
