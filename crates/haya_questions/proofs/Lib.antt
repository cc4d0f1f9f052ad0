mod Parts
mod PlaceLemmas
mod QuoteLemmas
mod SignPlaces
mod SortLemmas
mod SortWords
pub mod Sorts
mod Thens
mod Totals
mod Wholes
