mod Alone
mod EntryLines
mod Joined
mod Leaving
mod Saying
