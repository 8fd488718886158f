pub mod Effect
pub mod Heads
pub mod Action
pub mod Domain
pub mod FunctionGroups
pub mod KeyValues
pub mod Grammar
pub mod inside
