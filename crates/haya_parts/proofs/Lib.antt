pub mod LineEnds
mod Lists
mod Moving
mod Stopping
