pub mod Items
pub mod Views
pub mod Texts
pub mod Adding
pub mod Printed
