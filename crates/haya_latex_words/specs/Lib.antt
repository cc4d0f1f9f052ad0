pub mod Accents
pub mod Commands
pub mod CommandViews
