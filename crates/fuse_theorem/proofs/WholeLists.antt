-- Whole lists of events: the inductive invariant, and the headline.
pub mod WorldSound
pub mod EachEvent
pub mod EveryList
pub mod ListsRun
pub mod AllStaySound
pub mod AllKeeps
pub mod AllCollected
pub mod AllRun
pub mod AllRecorded
pub mod SoundWorlds
pub mod NoPremise
