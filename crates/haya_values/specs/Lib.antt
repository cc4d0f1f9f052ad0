pub mod MaybeTyped
pub mod OneOrMany
pub mod Order
pub mod Publisher
pub mod Url
