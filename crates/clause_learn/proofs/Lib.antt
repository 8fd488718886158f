pub mod Rup
pub mod Chains
pub mod Closing
pub mod Licences
pub mod Rising
