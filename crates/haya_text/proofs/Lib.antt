pub mod Tells
pub mod Characters
pub mod Equal
pub mod Numerics
mod Canonical
mod Folds
mod Grammars
mod Normals
mod Pushes
mod Scans
mod Serials
pub mod Turns
