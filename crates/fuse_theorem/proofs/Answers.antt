-- Answers: each call has one at most.
pub mod Answered
pub mod AnswersStay
pub mod AnswersApart
pub mod EachAnsweredOnce
pub mod NothingWaits
pub mod CollectedSound
pub mod WaitingAnswers
