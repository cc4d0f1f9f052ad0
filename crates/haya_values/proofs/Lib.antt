mod Orders
pub mod Equal
