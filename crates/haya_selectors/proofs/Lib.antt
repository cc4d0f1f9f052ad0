pub mod Options
pub mod Syntaxes
mod Sides
mod Equals
mod NameSets
mod NodeLists
mod Marks
mod SlotNames
mod Growth
mod CutBack
mod Kept
mod Simples
mod Chains
pub mod Cuts
pub mod OneCut
mod Taken
mod Fronts
mod Ends
pub mod Parsing
pub mod Bounds
mod Walks
pub mod Choices
pub mod InWords
mod LeastTrue
mod Nowhere
mod Stretches
mod Pieces
mod Tried
mod ParentSides
mod LawRows
mod Lasts
mod Paths
mod Rows
pub mod Runs
pub mod Totals
pub mod OneOutcome
pub mod Again
mod ErrorsEqual
mod ReadingRows
