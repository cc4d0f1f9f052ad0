pub mod FieldTexts
pub mod Hits
pub mod InOrder
pub mod Numbers
pub mod Persons
