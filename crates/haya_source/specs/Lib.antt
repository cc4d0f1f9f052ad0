pub mod Elements
pub mod Places
pub mod Printed
