mod Chains
pub mod Takings
mod Progress
mod InputRows
pub mod OneLibrary
pub mod Parts
mod Again
