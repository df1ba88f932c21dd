mod Collected
mod Outputs
