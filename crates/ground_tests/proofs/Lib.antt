pub mod HavingValues
