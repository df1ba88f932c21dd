pub mod EntryViews
pub mod Outcomes
pub mod Stored
pub mod Views
