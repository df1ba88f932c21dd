pub mod KernelLines
pub mod KernelRuns
pub mod Lines
pub mod ServerLines
pub mod ServerRuns
pub mod Splits
