pub mod PieceLaws
pub mod Digits
pub mod Order
pub mod Lists
pub mod CallLaws
pub mod Marked
pub mod FractionReading
