pub mod Behind
pub mod Nested
pub mod NextHits
pub mod Orders
pub mod Reaches
