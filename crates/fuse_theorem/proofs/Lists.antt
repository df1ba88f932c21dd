-- Lists, maps and sums over them.
pub mod Values
pub mod LinkSums
pub mod UnderNumber
pub mod MapSums
pub mod OpenSums
pub mod SetMarks
