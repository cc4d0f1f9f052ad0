pub mod Printed
pub mod Pushed
pub mod Parts
pub mod LeftOut
