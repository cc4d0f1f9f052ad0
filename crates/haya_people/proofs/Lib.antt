pub mod Equal
mod TableLemmas
mod Beginnings
mod AnyAnswers
pub mod RoleEqual
mod RoleNames
mod Styles
mod OrderRows
mod Families
mod Parts
mod Rows
mod Steps
mod Items
mod WordLaws
mod WordLemmas
