pub mod Doing
pub mod ServeStatuses
pub mod Statuses
