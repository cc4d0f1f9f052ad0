mod Bracketed
mod Classes
mod Closing
pub mod Complete
mod Copied
mod Cut
pub mod Documents
mod Faults
mod Fronts
mod InPlace
mod Items
mod Lexed
mod Line
pub mod NonemptyLines
mod Outside
mod Pieces
mod Punctuated
mod Rests
mod TokenKinds
mod TokenPlaces
mod Within
mod Words
