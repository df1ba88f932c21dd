pub mod Behind
pub mod Files
pub mod CertainLaws
