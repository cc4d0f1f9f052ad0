mod Pieces
pub mod Prefixes
mod ListTurns
mod MadeLemmas
mod MembersTold
mod ReadOrTold
mod NamesReadOrTold
mod DatesReadOrTold
mod Refusals
pub mod ItemLists
mod TakenLists
