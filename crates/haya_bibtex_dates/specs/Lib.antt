pub mod Digits
pub mod Clock
pub mod Calendar
pub mod Forms
pub mod Years
pub mod Months
pub mod Entries
pub mod DateViews
