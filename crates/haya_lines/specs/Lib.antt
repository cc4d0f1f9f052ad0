pub mod Signs
pub mod FieldTable
pub mod Items
pub mod Line
pub mod LineReading
