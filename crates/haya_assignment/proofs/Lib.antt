mod Numbers
mod Reaching
mod Shifting
pub mod Holding
mod Placing
mod Listing
mod Bridging
mod Lowering
mod Ranking
mod LawsOfLists
mod InTurn
mod SameRows
