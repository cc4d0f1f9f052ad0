mod Depths
mod FieldRows
mod FieldsRead
mod ItemLemmas
pub mod Rows
