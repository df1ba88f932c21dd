pub mod Entries
pub mod RecordPlaces
pub mod Record
pub mod Records
pub mod Replies
pub mod NotificationTable
pub mod NodeIds
pub mod Notifications
