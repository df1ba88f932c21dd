pub mod Examples
pub mod FrameExamples
pub mod NameLaws
pub mod FaultLaws
pub mod NameFrameLaws
pub mod TheoremLaws
mod UnsureLaws
