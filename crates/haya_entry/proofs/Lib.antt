pub mod Trees
pub mod Depths
pub mod Equal
mod SerialLemmas
pub mod LevelLemmas
mod LevelsApart
mod Rows
mod LookupLemmas
mod RoleLemmas
pub mod FirstValues
mod LookupRows
