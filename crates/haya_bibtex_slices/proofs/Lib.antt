pub mod InOrder
pub mod Picked
pub mod PickedHits
pub mod PartsOf
