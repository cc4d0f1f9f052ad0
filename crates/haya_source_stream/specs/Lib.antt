pub mod Answers
pub mod Asked
pub mod Enough
pub mod Kinds
pub mod Parts
pub mod Printed
