pub mod AnsweredOnce
pub mod TakenOnce
pub mod Tallies
