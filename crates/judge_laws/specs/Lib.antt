pub mod Licensed
