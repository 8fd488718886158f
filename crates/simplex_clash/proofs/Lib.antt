pub mod Permuting
pub mod Variables
pub mod ReadingRows
pub mod Rising
pub mod SignTests
pub mod PartRows
pub mod Making
pub mod Clashes
