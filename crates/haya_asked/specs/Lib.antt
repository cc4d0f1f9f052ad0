pub mod Alike
pub mod Firsts
pub mod Seen
pub mod Placed
pub mod Asked
pub mod Tables
pub mod Lists
