mod CountLemmas
mod ListLemmas
mod SeenLemmas
mod ShareLemmas
pub mod AskedLemmas
pub mod FirstsLemmas
pub mod PlaceLemmas
