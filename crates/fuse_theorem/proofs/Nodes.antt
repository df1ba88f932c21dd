-- Nodes: what the kernel counts, the server holds for the same file.
pub mod NodesSound
pub mod ServerSound
pub mod Rooted
pub mod UnsentNodes
pub mod NodesKnown
pub mod HeldKnown
pub mod HeldStays
pub mod StillHeld
pub mod HeldNodes
pub mod PerformNeeds
pub mod HoldsAll
pub mod NodesHeld
pub mod TakenStay
