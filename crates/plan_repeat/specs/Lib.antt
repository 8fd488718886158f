pub mod Rolling
pub mod StepsOn
pub mod Halving
pub mod Jump
pub mod Repeat
pub mod inside
