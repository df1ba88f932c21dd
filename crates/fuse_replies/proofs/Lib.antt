pub mod RecordPlaces
pub mod RecordLists
