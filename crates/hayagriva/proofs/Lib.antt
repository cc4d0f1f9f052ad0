mod Maps
mod Pushes
pub mod Parts
mod Equal
pub mod Literals
pub mod Queries
pub mod QueryRuns
mod LibraryRows
pub use Rattle.haya_entry.proofs.Trees
pub use Rattle.haya_selectors.proofs.OneOutcome
