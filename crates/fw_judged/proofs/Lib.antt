mod Stepping
mod Heard
mod WholeSessions
