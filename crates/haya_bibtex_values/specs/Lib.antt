pub mod Fronts
pub mod Standing
pub mod Addresses
pub mod PageTexts
pub mod Archives
