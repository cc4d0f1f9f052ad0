mod Lists
pub mod Tallies
pub mod NotesKept
pub mod ParseErrors
mod Wholes
pub mod KeptKeys
mod InOrder
mod Written
mod WrittenEntries
mod ReadBacks
mod Solids
mod NoneLost
mod EntriesBack
mod Looked
mod PersonsBack
mod DatesBack
mod TextsBack
mod NumbersBack
mod SerialsBack
mod FieldsBack
pub mod Sounds
mod SoundEntries
mod NoBad
pub mod TextsRead
mod ValuesRead
mod SerialsRead
mod FieldsRead
mod EntriesRead
mod LibraryRead
mod Utf8Parts
mod TextsParsed
mod NumberBytes
mod TokensParsed
mod OneLine
mod TextLines
mod LinesRead
mod NamedRead
mod Positions
pub mod LinesTaken
mod LawsBelow
pub mod ValuesAlone
pub mod OneMember
pub mod MemberLists
mod MembersTold
