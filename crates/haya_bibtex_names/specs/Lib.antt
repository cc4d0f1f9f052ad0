pub mod Signs
pub mod Words
pub mod Parts
pub mod Plain
pub mod NameViews
pub mod Extended
pub mod Lists
