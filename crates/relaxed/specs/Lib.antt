pub mod Interval
pub mod Range
pub mod Layers
pub mod Supported
pub mod Named
pub mod InLayer
pub mod Answer
pub mod inside
