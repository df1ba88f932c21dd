pub mod WorldTransfers
pub mod KernelRules
pub mod AtRest
