pub mod Answer
pub mod Assignment
pub mod Laws
pub mod Orders
pub mod Placed
pub mod Ranked
pub mod Search
pub mod Shift
