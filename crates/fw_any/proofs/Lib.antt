pub mod Codes
pub mod Printed
pub mod Statuses
